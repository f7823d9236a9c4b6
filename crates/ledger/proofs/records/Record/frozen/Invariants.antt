use Rattle.std.proofs.Common.{◌≡◌, ◌*◌, ◌^◌, ◌≤◌, take, sum_by}
use Rattle.ledger.specs.Read.{read}
use Rattle.ledger.specs.Funds.{funds_frozen_by, of_place}
use Rattle.ledger.proofs.records.Record.frozen.Given as goal

abbrev pub invariant-loop-place : goal.invariant-loop-place
invariant-loop-place l = (l.total ≡ sum_by (of_place (funds_frozen_by (read l.self) l.account)) (take l.place-index l.self.requests.places)) × (l.total ≤ l.place-index * 2 ^ 97)
