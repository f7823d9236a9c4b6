-- What a deposit or withdrawal that meets no refusal tells, and that it keeps the invariant. Assumes nothing.
use Rattle.std.proofs.Common.{◌≡◌, ℕ, ◌^◌, ◌<◌, false, ℤ, pos, ◌+ℤ◌, ◌-ℤ◌, None, arith}
use lib.Signed.{lt_z}
use Rattle.std.proofs.lemmas.Bool.Decides.{nat_tests}
use Rattle.std.proofs.lemmas.Int.{ints}
use Rattle.ledger.specs.Ledger.{Ledger, cash_of}
use Rattle.ledger.specs.Funds.{InRange, available_of, margin_of, frozen_of}
use Rattle.ledger.specs.Kept.{Sound}
use Rattle.ledger.specs.declared.records.Slip.{Slip}
use Rattle.ledger.proofs.Changes.{keep_cash}
use Rattle.session.specs.Cash.{overdrawn, deposit_refusal, deposit_effect, withdrawal_refusal, withdrawal_effect}
use Rattle.session.specs.declared.orders.Deposit.{Deposit}
use Rattle.session.specs.declared.orders.Withdrawal.{Withdrawal}

pub deposit_known : (s : Ledger) (slip : Slip) (d : Deposit) → deposit_refusal s slip d ≡ None → (d.account < 32) × (lt_z (pos (10 ^ 18)) (cash_of s d.account +ℤ pos d.amount) ≡ false)
deposit_known s slip d e = grind (arith, nat_tests)

pub withdrawal_known : (s : Ledger) (slip : Slip) (w : Withdrawal) → withdrawal_refusal s slip w ≡ None → (w.account < 32) × (lt_z (available_of s w.account -ℤ pos w.amount) (pos 0) ≡ false)
unfolding overdrawn
withdrawal_known s slip w e = grind (arith, nat_tests)

more_in_range : (x : ℤ) (n : ℕ) → InRange x → lt_z (pos (10 ^ 18)) (x +ℤ pos n) ≡ false → InRange (x +ℤ pos n)
more_in_range x n h g = grind (arith, ints)

less_in_range : (x : ℤ) (m f n : ℕ) → InRange x → lt_z (x -ℤ pos m -ℤ pos f -ℤ pos n) (pos 0) ≡ false → InRange (x -ℤ pos n)
less_in_range x m f n h g = grind (arith, ints)

pub deposit_keeps : (s : Ledger) (slip : Slip) (d : Deposit) → Sound s → deposit_refusal s slip d ≡ None → Sound (deposit_effect s d)
deposit_keeps s slip d h e =
    let known = deposit_known s slip d e in
    keep_cash s d.account _ h known.0 (more_in_range (cash_of s d.account) d.amount (h.cash.in_range d.account known.0) known.1)

pub withdrawal_keeps : (s : Ledger) (slip : Slip) (w : Withdrawal) → Sound s → withdrawal_refusal s slip w ≡ None → Sound (withdrawal_effect s w)
withdrawal_keeps s slip w h e =
    let known = withdrawal_known s slip w e in
    let a = w.account in
    keep_cash s a _ h known.0 (less_in_range (cash_of s a) (margin_of s a) (frozen_of s a) w.amount (h.cash.in_range a known.0) known.1)
