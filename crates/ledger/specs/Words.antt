-- The words that stages, positions and quotes are printed with. Assumes nothing.
use Rattle.std.specs.Prelude.{ℕ, List, ◌++◌, codes}
use Rattle.std.specs.Fmt.{decimal}
use Rattle.ledger.specs.declared.records.Stage.{Stage}
use Rattle.ledger.specs.declared.records.Stage.TheVariants.{Trading, Cut, Draw}
use Rattle.ledger.specs.declared.questions.Position.{Position}
use Rattle.ledger.specs.declared.questions.Quote.{Quote}

-- each stage by one word
abbrev pub stage_word : Stage → List ℕ
stage_word Trading = codes "trading"
stage_word Cut = codes "cut"
stage_word Draw = codes "draw"

-- its long, short and free lots, each after its word
abbrev pub position_text : Position → List ℕ
position_text p = codes "long " ++ decimal p.long ++ codes " short " ++ decimal p.short ++ codes " free " ++ decimal p.free

-- its price and its rate, each after its word
abbrev pub quote_text : Quote → List ℕ
quote_text q = codes "price " ++ decimal q.price ++ codes " rate " ++ decimal q.rate
