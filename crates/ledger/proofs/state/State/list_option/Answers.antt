use Rattle.ledger.specs.View.{view}
use Rattle.ledger.proofs.Keeping.{sound_of}
use Rattle.ledger.proofs.Changes.{keep_option}
use Rattle.ledger.proofs.state.State.list_option.Goals as goal

pub invariant_of-self : goal.invariant_of-self
invariant_of-self c = record { kept = rw c.set_option.ensures (∣ keep_option (view c.args.self.now) c.args.number c.args.option (sound_of c.args.self.now.kept) c.requires.number.0 c.requires.number.1 c.requires.sound ∣₁) }
