-- Calls by what they mean: an act is a call with the slip that it shows, as a value. Assumes nothing.
use Rattle.std.specs.Prelude.{◌≡◌, Result}
use Rattle.refusals.specs.declared.Refusal.{Refusal}
use Rattle.margin.specs.Rules.{Rule}
use Rattle.ledger.specs.Ledger.{Ledger}
use Rattle.ledger.specs.View.{view}
use Rattle.ledger.specs.Calls.{Outcome, answer, after, Spared}
use Rattle.ledger.specs.declared.records.Reply.{Reply}
use Rattle.ledger.specs.declared.records.Slip.{Slip}
use Rattle.ledger.specs.declared.records.Stage.TheVariants.{Trading}
use Rattle.ledger.specs.declared.state.State.{State}
use Rattle.session.specs.Cash.{deposited, withdrawn}
use Rattle.session.specs.Listings.{future_listed, option_listed}
use Rattle.session.specs.declared.orders.Deposit.{Deposit}
use Rattle.session.specs.declared.orders.Withdrawal.{Withdrawal}
use Rattle.session.specs.declared.orders.FutureListing.{FutureListing}
use Rattle.session.specs.declared.orders.OptionListing.{OptionListing}
use Rattle.session.specs.declared.orders.Order.{Order}
use Rattle.session.specs.declared.orders.Order.TheVariants.{Deposit as Depositing, Withdraw, ListFuture, ListOption}
use Rattle.book.specs.declared.calls.Call.{Call}

-- a call with its slip
pub data Act : Type 0 where
  depositing : Slip → Deposit → Act
  withdrawing : Slip → Withdrawal → Act
  listing_future : Slip → FutureListing → Act
  listing_option : Slip → OptionListing → Act

-- the act of an order under a slip
abbrev pub ordered : Slip → Order → Act
ordered slip (Depositing d) = depositing slip d
ordered slip (Withdraw w) = withdrawing slip w
ordered slip (ListFuture l) = listing_future slip l
ordered slip (ListOption l) = listing_option slip l

-- a written call shows a slip of the stage that its call takes
abbrev pub act : Call → Act
act c = ordered (record { number = c.book; day = c.day; stage = Trading }) c.order

-- what an act comes to under a margin rule, in a book
abbrev pub stepped : Rule → Ledger → Act → Outcome
stepped rule s (depositing slip d) = deposited s slip d
stepped rule s (withdrawing slip w) = withdrawn s slip w
stepped rule s (listing_future slip l) = future_listed rule s slip l
stepped rule s (listing_option slip l) = option_listed rule s slip l

-- what a written call promises
pub record Performed (o : Outcome) (before later : State) (r : Result Reply Refusal) : Type 0 where
  pub answers : r ≡ answer o
  pub leaves : view later ≡ after (view before) o
  pub spares : Spared o before later
