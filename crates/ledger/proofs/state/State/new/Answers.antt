use Rattle.std.proofs.Common.{refl}
use Rattle.ledger.specs.Ledger.{made}
use Rattle.ledger.proofs.Keeping.{made_sound}
use Rattle.ledger.proofs.state.State.new.Goals as goal

pub invariant_of-result : goal.invariant_of-result
unfolding made
invariant_of-result c = record { kept = ∣ made_sound c.args.number ∣₁ }

pub returns : goal.returns
unfolding made
returns c = refl
