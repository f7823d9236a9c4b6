use Rattle.std.proofs.Common.{arith}
use Rattle.std.proofs.lemmas.Str.Pattern.{strip_prefix_char, split_once_first}
use Rattle.std.proofs.lemmas.Option.{MatchOption-at_some, MatchOption-at_none}
use Rattle.words.proofs.Cuts.{no_sign, halves}
use Rattle.words.proofs.slip.parts.Goals as goal

pub returns-in_err-strip_prefix : goal.returns-in_err-strip_prefix
returns-in_err-strip_prefix c = rw c.from_residual.ensures (no_sign _ (MatchOption-at_none _ _ c.in_err-strip_prefix.was (strip_prefix_char 64 _ _ c.strip_prefix.ensures.cases (omega arith))))

pub returns : goal.returns
returns c = halves _ _ _ (MatchOption-at_some _ _ _ c.in_ok-strip_prefix.was (strip_prefix_char 64 _ _ c.strip_prefix.ensures.cases (omega arith))) (split_once_first 46 _ _ c.split_once.ensures.cases (omega arith))
