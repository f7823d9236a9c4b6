use Rattle.std.proofs.Math.Facts.{to_z-of_z}
use Rattle.ledger.specs.View.{view}
use Rattle.ledger.proofs.Keeping.{sound_of}
use Rattle.ledger.proofs.Changes.{keep_cash}
use Rattle.ledger.proofs.state.State.book_cash.Goals as goal

pub invariant_of-self : goal.invariant_of-self
invariant_of-self c = record { kept = rw (c.set_cash.ensures.sets, to_z-of_z c.ranges.cash) (∣ keep_cash (view c.args.self.now) c.args.account c.args.cash (sound_of c.args.self.now.kept) c.set_cash.ensures.there c.requires ∣₁) }
