-- The words that a holding is printed with. Assumes nothing.
use Rattle.std.specs.Prelude.{ℕ, List, ◌++◌, codes}
use Rattle.std.specs.Fmt.{decimal}
use Rattle.kinds.specs.declared.terms.Holding.{Holding}

-- its long lots and its short ones, each after the word for the side
abbrev pub holding_text : Holding → List ℕ
holding_text h = codes "long " ++ decimal h.long ++ codes " short " ++ decimal h.short
