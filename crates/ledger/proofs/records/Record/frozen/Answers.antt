use Rattle.std.proofs.Common.{sum_by, ap, ◌∙◌, arith, take_all, None}
use Rattle.std.proofs.lemmas.List.Sums.{sum_by_more}
use Rattle.ledger.specs.Read.{read}
use Rattle.ledger.specs.Funds.{funds_frozen_by, of_place}
use Rattle.ledger.proofs.records.Record.frozen.Goals as goal

pub loop-place-preserved : goal.loop-place-preserved
loop-place-preserved c =
    let more = sum_by_more (of_place (funds_frozen_by (read c.args.self.now) c.args.account)) c.args.self.now.requests.places c.loop-place.place-index None (omega arith) in
    let before = c.loop-place.invariant in
    let one = c.funds_frozen_in-total.ensures in
    (omega (arith, more, before.0, one.frozen), omega (arith, before.1, one.bound))

pub returns : goal.returns
returns c =
    let all = take_all c.loop-place.place-index c.args.self.now.requests.places (omega (arith, c.args.self.now.requests.whole)) in
    let sum = c.loop-place.invariant.0 ∙ ap (sum_by (of_place (funds_frozen_by (read c.args.self.now) c.args.account))) all in
    record { frozen = sum; bound = omega (arith, c.loop-place.invariant.1, c.loop-place.auto) }
