use Rattle.std.proofs.Common.{arith, rules, tests}
use Rattle.std.proofs.lemmas.Str.Parse.{parse_plain}
use Rattle.std.proofs.lemmas.Str.Pattern.{starts_char}
use Rattle.std.proofs.lemmas.Bool.Decides.{not_from_Decides}
use Rattle.words.proofs.Numbers.{own, kept}
use Rattle.words.proofs.number.number.Goals as goal

pub returns : goal.returns
returns c =
    let plain = not_from_Decides _ (starts_char 43 c.args.word.now _ c.starts_with.ensures.cases (omega arith) (omega arith)) c.if-starts_with.false in
    let read = parse_plain own 64 c.args.word.now _ c.parse.ensures.value.0 plain in
    kept c.args.word.now c.args.most c.parse.result c.filter.result _ (omega (arith, c.ranges.most.fits)) read (rw c.ok.ensures.value at c.filter.ensures) (λ x b h. search (rules, tests))
