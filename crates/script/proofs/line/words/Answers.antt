use Rattle.std.proofs.Common.{◌∙◌, rules, tests, lit<}
use Rattle.std.proofs.lemmas.Iterator.Consumers.{map_from_collect, YieldsList-from_filter, YieldsList-at}
use Rattle.std.proofs.lemmas.Iterator.Splits.{YieldsList-from_str_split}
use Rattle.words.specs.Cuts.{before}
use Rattle.script.proofs.line.words.Goals as goal

pub returns : goal.returns
returns c =
    let parts = YieldsList-from_str_split 32 (before 35 c.args.line.now) (lit< tt) (c.split.ensures.text ∙ c.before_comment.ensures) c.split.ensures.has_more c.split.ensures.pattern in
    map_from_collect _ c.collect.ensures.ran (YieldsList-from_filter _ _ (YieldsList-at c.filter.ensures.source parts) c.filter.ensures.closure (λ x r q k. search (rules, tests)))
