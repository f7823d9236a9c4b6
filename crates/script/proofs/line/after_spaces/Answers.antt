use Rattle.std.proofs.Common.{not, eqb, ◌∙◌, rules, tests}
use Rattle.std.proofs.lemmas.Iterator.{YieldsList-from_slice}
use Rattle.std.proofs.lemmas.Iterator.Search.{position_from_yields_List}
use Rattle.script.proofs.BookWord.{spaces_dropped}
use Rattle.script.proofs.Parts.{place}
use Rattle.script.proofs.line.after_spaces.Goals as goal

pub returns : goal.returns
returns c =
    let found = position_from_yields_List (λ b. not (eqb b 32)) _ _ _ c.position.ensures.ran (YieldsList-from_slice c.args.line.now cc) (λ x b q k. search (rules, tests)) in
    spaces_dropped c.args.line.now _ (c.unwrap_or-start.ensures ∙ place (λ b. not (eqb b 32)) c.args.line.now _ found)
