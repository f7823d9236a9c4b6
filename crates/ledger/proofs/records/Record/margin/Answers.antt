use Rattle.std.proofs.Common.{sym, arith}
use Rattle.ledger.specs.Ledger.{holding_of}
use Rattle.ledger.specs.Read.{read}
use Rattle.ledger.specs.Funds.{contract_margin}
use Rattle.ledger.proofs.Totals.{sum_to_none, sum_to_more}
use Rattle.ledger.proofs.records.Record.margin.Goals as goal

pub loop-contract-init : goal.loop-contract-init
loop-contract-init c = (sym (sum_to_none _), omega arith)

pub loop-contract-preserved : goal.loop-contract-preserved
loop-contract-preserved c =
    let s = read c.args.self.now in
    let more = sum_to_more c.loop-contract.contract (λ k. contract_margin s k (holding_of s c.args.account k)) in
    let before = c.loop-contract.invariant in
    let one = c.contract_margin-total.ensures in
    let here = rw c.place.ensures.number at one.margin in
    (omega (arith, more, before.0, here), omega (arith, before.1, one.bound))
