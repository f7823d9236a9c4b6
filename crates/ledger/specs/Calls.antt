-- What a call comes to, and the one shape of every call's promise. Assumes nothing.
use Rattle.std.specs.Prelude.{◌≡◌, Some, None, Ok, Err, Option, Result}
use Rattle.refusals.specs.declared.Refusal.{Refusal}
use Rattle.ledger.specs.Ledger.{Ledger}
use Rattle.ledger.specs.View.{view}
use Rattle.ledger.specs.declared.records.Reply.{Reply}
use Rattle.ledger.specs.declared.records.Reply.TheVariants.{Done}
use Rattle.ledger.specs.declared.state.State.{State}

-- a call is refused, or done: it replies, and leaves a ledger
pub data Outcome : Type 0 where
  refused : Refusal → Outcome
  done : Reply → Ledger → Outcome

-- it is done unless it meets a refusal
abbrev pub unless : Option Refusal → Reply → Ledger → Outcome
unless (Some r) reply t = refused r
unless None reply t = done reply t

-- what the caller is answered
abbrev pub answer : Outcome → Result Reply Refusal
answer (refused r) = Err r
answer (done reply t) = Ok reply

-- the ledger afterwards: a refusal alters nothing
abbrev pub after : Ledger → Outcome → Ledger
after s (refused r) = s
after s (done reply t) = t

-- a refusal leaves the very record that it found
abbrev pub Spared : Outcome → State → State → Type 0
Spared (refused r) before later = later ≡ before
Spared (done reply t) before later = Unit {0}

-- how a call's own result reads as a reply
abbrev pub told_as : {X : Type 0} → (X → Reply) → Result X Refusal → Result Reply Refusal
told_as reply (Ok x) = Ok (reply x)
told_as reply (Err r) = Err r

-- a result that tells no more than that the call was carried out
abbrev pub plainly : Unit {0} → Reply
plainly x = Done

-- what a call promises: its answer, the ledger that it leaves, and where it refuses the very record that it found
pub record Performs {X : Type 0} (reply : X → Reply) (o : Outcome) (before later : State) (r : Result X Refusal) : Type 0 where
  pub answers : told_as reply r ≡ answer o
  pub leaves : view later ≡ after (view before) o
  pub spares : Spared o before later
