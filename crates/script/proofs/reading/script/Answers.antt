use Rattle.std.proofs.Common.{eqb, length, rules, tests}
use Rattle.std.specs.List.{slice_split}
use Rattle.std.proofs.lemmas.Iterator.Consumers.{YieldsList-at, YieldsList-from_enumerate, YieldsList-turn, YieldsList-end}
use Rattle.std.proofs.lemmas.Iterator.Splits.{YieldsList-from_slice_split}
use Rattle.script.specs.Readings.{read_by}
use Rattle.script.proofs.Parts.{next_line, numbered, all_lines}
use Rattle.script.proofs.reading.script.Goals as goal

pub loop-index-preserved : goal.loop-index-preserved
loop-index-preserved c =
    let text = c.args.text.now in
    let turn = YieldsList-turn (YieldsList-at c.into_iter-index-iterator.ensures.into_iter_gives (YieldsList-from_enumerate (YieldsList-at c.enumerate-index-items.ensures.source (YieldsList-from_slice_split _ (λ b. eqb b 10) text c.split.ensures.rest c.split.ensures.done c.split.ensures.closure (λ x r q k. search (rules, tests)))) c.enumerate-index-items.ensures.count)) c.loop-index.yielded _ c.loop-index.yielded_by _ _ (c.in-Some.index, c.in-Some.line) c.in-Some.is c.next.ensures.steps in
    let index = numbered (slice_split (λ b. eqb b 10) text) (length c.loop-index.yielded) c.in-Some.index c.in-Some.line.now turn.0 turn.1 in
    next_line c.loop-index.yielded c.in-Some.index c.in-Some.line (read_by c.loop-index.reader) _ index c.loop-index.invariant c.in_ok-take.ensures

pub returns : goal.returns
returns c =
    let text = c.args.text.now in
    let turn = YieldsList-end (YieldsList-at c.into_iter-index-iterator.ensures.into_iter_gives (YieldsList-from_enumerate (YieldsList-at c.enumerate-index-items.ensures.source (YieldsList-from_slice_split _ (λ b. eqb b 10) text c.split.ensures.rest c.split.ensures.done c.split.ensures.closure (λ x r q k. search (rules, tests)))) c.enumerate-index-items.ensures.count)) c.loop-index.yielded _ c.loop-index.yielded_by _ _ c.in-None.is c.next.ensures.steps in
    rw (all_lines text c.loop-index.yielded (read_by c.loop-index.reader) c.loop-index.invariant turn.0) at c.end.ensures
