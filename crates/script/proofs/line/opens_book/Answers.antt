use Rattle.std.proofs.Common.{codes, rules, tests}
use Rattle.std.proofs.lemmas.Bool.Decides.{Decides-eqb}
use Rattle.std.proofs.lemmas.Slice.Eq.{strip_prefix_is}
use Rattle.script.proofs.BookWord.{answered}
use Rattle.script.proofs.line.opens_book.Goals as goal

pub returns : goal.returns
returns c =
    let rest = c.after_spaces.result.now in
    answered c.args.line.now rest c.after_spaces.ensures _ _ _ (strip_prefix_is Decides-eqb rest (codes "book") _ c.strip_prefix.ensures.cases) c.is_some_and.ensures (λ x k. search (rules, tests))
