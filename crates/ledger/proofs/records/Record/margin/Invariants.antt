use Rattle.std.proofs.Common.{◌≡◌, ◌*◌, ◌^◌, ◌≤◌}
use Rattle.ledger.specs.Sums.{sum_to}
use Rattle.ledger.specs.Ledger.{holding_of}
use Rattle.ledger.specs.Read.{read}
use Rattle.ledger.specs.Funds.{contract_margin}
use Rattle.ledger.proofs.records.Record.margin.Given as goal

abbrev pub invariant-loop-contract : goal.invariant-loop-contract
invariant-loop-contract l = (l.total ≡ sum_to l.contract (λ k. contract_margin (read l.self) k (holding_of (read l.self) l.fn.account k))) × (l.total ≤ l.contract * 2 ^ 97)
