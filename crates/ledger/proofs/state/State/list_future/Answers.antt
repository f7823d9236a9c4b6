use Rattle.ledger.specs.View.{view}
use Rattle.ledger.proofs.Keeping.{sound_of}
use Rattle.ledger.proofs.Changes.{keep_future}
use Rattle.ledger.proofs.state.State.list_future.Goals as goal

pub invariant_of-self : goal.invariant_of-self
invariant_of-self c = record { kept = rw c.set_future.ensures (∣ keep_future (view c.args.self.now) c.args.number c.args.future (sound_of c.args.self.now.kept) c.requires.number c.requires.free c.requires.sound ∣₁) }
