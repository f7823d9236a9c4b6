-- Where a book stands. Assumes nothing.
use Rattle.std.specs.Prelude.{ℕ, List, ◌++◌, codes}
use Rattle.std.specs.Fmt.{decimal}
use Rattle.ledger.specs.Ledger.{Ledger}
use Rattle.ledger.specs.Words.{stage_word}
use Rattle.rogbeku.specs.declared.today.Today.{Today}

-- its number, its day and the stage of the day
abbrev pub today_of : Ledger → Today
today_of s = record { book = s.number; day = s.day; stage = s.stage }

-- each after its word
abbrev pub today_text : Today → List ℕ
today_text t = codes "book " ++ decimal t.book ++ codes " day " ++ decimal t.day ++ codes " stage " ++ stage_word t.stage
