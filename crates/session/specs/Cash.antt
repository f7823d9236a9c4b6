-- Deposits and withdrawals: the rows in their order, and what is done. Assumes nothing.
use Rattle.std.specs.Prelude.{ℕ, ◌^◌, Bool, cond, pos, ◌+ℤ◌, ◌-ℤ◌, Some, None, Option, Ok, Err, Result, int_lt, nat_le}
use Rattle.refusals.specs.declared.Refusal.{Refusal}
use Rattle.refusals.specs.declared.Refusal.TheVariants.{WrongSlip, NoSuch, OutOfLimits, ShortOfFunds, BeyondRange}
use Rattle.ledger.specs.Ledger.{Ledger, cash_of, with_cash}
use Rattle.ledger.specs.Slips.{wrong_slip}
use Rattle.ledger.specs.Funds.{available_of}
use Rattle.ledger.specs.Calls.{Outcome, unless}
use Rattle.ledger.specs.declared.records.Reply.TheVariants.{Done}
use Rattle.ledger.specs.declared.records.Slip.{Slip}
use Rattle.ledger.specs.declared.records.Stage.TheVariants.{Trading}
use Rattle.session.specs.Limits.{outside}
use Rattle.session.specs.declared.orders.Deposit.{Deposit}
use Rattle.session.specs.declared.orders.Withdrawal.{Withdrawal}

-- the rows that deposits and withdrawals share: the slip, the account, the amount
abbrev pub payable : Ledger → Slip → ℕ → ℕ → Result ℕ Refusal
payable s slip account amount =
    cond (wrong_slip s slip Trading) (Err (WrongSlip slip.number))
    (cond (nat_le 32 account) (Err (NoSuch account))
    (cond (outside 1 (10 ^ 15) amount) (Err (OutOfLimits 2))
    (Ok account)))

-- no cash may rise above 10^18 fen
abbrev pub deposit_refusal : Ledger → Slip → Deposit → Option Refusal
deposit_refusal s slip d =
    cond (wrong_slip s slip Trading) (Some (WrongSlip slip.number))
    (cond (nat_le 32 d.account) (Some (NoSuch d.account))
    (cond (outside 1 (10 ^ 15) d.amount) (Some (OutOfLimits 2))
    (cond (int_lt (pos (10 ^ 18)) (cash_of s d.account +ℤ pos d.amount)) (Some (BeyondRange d.account))
    None)))

-- the account has the amount more
abbrev pub deposit_effect : Ledger → Deposit → Ledger
deposit_effect s d = with_cash s d.account (cash_of s d.account +ℤ pos d.amount)

-- what a deposit comes to
unfoldable pub deposited : Ledger → Slip → Deposit → Outcome
deposited s slip d = unless (deposit_refusal s slip d) Done (deposit_effect s d)

-- less than 0 would be left of the available funds
unfoldable pub overdrawn : Ledger → ℕ → ℕ → Bool
overdrawn s account amount = int_lt (available_of s account -ℤ pos amount) (pos 0)

-- what is left of the available funds may not be below 0
abbrev pub withdrawal_refusal : Ledger → Slip → Withdrawal → Option Refusal
withdrawal_refusal s slip w =
    cond (wrong_slip s slip Trading) (Some (WrongSlip slip.number))
    (cond (nat_le 32 w.account) (Some (NoSuch w.account))
    (cond (outside 1 (10 ^ 15) w.amount) (Some (OutOfLimits 2))
    (cond (overdrawn s w.account w.amount) (Some (ShortOfFunds w.account))
    None)))

-- the account has the amount less
abbrev pub withdrawal_effect : Ledger → Withdrawal → Ledger
withdrawal_effect s w = with_cash s w.account (cash_of s w.account -ℤ pos w.amount)

-- what a withdrawal comes to
unfoldable pub withdrawn : Ledger → Slip → Withdrawal → Outcome
withdrawn s slip w = unless (withdrawal_refusal s slip w) Done (withdrawal_effect s w)
