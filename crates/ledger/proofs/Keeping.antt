-- The invariant as a proposition, and a new book's. Assumes nothing.
use Rattle.std.proofs.Common.{◌≡◌, ℕ, zero, suc, ◌+◌, ◌-◌, ◌<◌, true, false, cond, ltb, get_or, replicate, pos, Some, None, Option, sym, refl, ap, ◌∙◌, inl, inr, arith}
use mathlib.Core.Logic.{∥∥₁_elim}
use native.Mathlib.Bridge.{le_prop}
use base.Stored.{Coded-set, coded_ℕ}
use lib.ListN.{length-replicate, get_or-replicate}
use Rattle.margin.specs.Limits.{FutureWithin, OptionWithin}
use Rattle.margin.specs.declared.rule.FutureLot.{FutureLot}
use Rattle.margin.specs.declared.rule.OptionLot.{OptionLot}
use Rattle.ledger.specs.Ledger.{Ledger, made, cash_of, opened, no_account, no_holding, future_of, option_of, future_under}
use Rattle.ledger.specs.Kept.{ShapeKept, FutureKept, Covers, OptionKept, ContractsKept, CashKept, LotsKept, Sound}
use Rattle.std.proofs.lemmas.Bool.{cases_lt, le-ltb}
use Rattle.std.proofs.lemmas.Int.{ints}
use Rattle.ledger.specs.Funds.{all_cash}
use Rattle.ledger.specs.declared.records.Account.{Account}
use Rattle.ledger.specs.declared.records.Request.{Request}
use Rattle.ledger.proofs.Totals.{sum_to_same, total_to_same, total_to_zero}
use Rattle.kinds.specs.declared.terms.Holding.{Holding}
use Rattle.ledger.specs.declared.records.Contract.{Contract}
use Rattle.kinds.specs.declared.terms.FutureTerms.{FutureTerms}
use Rattle.kinds.specs.declared.terms.OptionTerms.{OptionTerms}

shape_prop : (s : Ledger) → IsProp (ShapeKept s)
shape_prop s p q = λ i. record {
  accounts = Coded-set coded_ℕ _ _ p.accounts q.accounts i;
  holdings = λ a h. Coded-set coded_ℕ _ _ (p.holdings a h) (q.holdings a h) i;
  futures = Coded-set coded_ℕ _ _ p.futures q.futures i;
  options = Coded-set coded_ℕ _ _ p.options q.options i;
  requests = Coded-set coded_ℕ _ _ p.requests q.requests i;
}

future_within_prop : (f : FutureLot) → IsProp (FutureWithin f)
future_within_prop f p q = λ i. record {
  price_least = le_prop p.price_least q.price_least i;
  price_most = le_prop p.price_most q.price_most i;
  units_least = le_prop p.units_least q.units_least i;
  units_most = le_prop p.units_most q.units_most i;
  ratio_least = le_prop p.ratio_least q.ratio_least i;
  ratio_most = le_prop p.ratio_most q.ratio_most i;
}

option_within_prop : (o : OptionLot) → IsProp (OptionWithin o)
option_within_prop o p q = λ i. record {
  strike_least = le_prop p.strike_least q.strike_least i;
  strike_most = le_prop p.strike_most q.strike_most i;
  price_least = le_prop p.price_least q.price_least i;
  price_most = le_prop p.price_most q.price_most i;
}

future_prop : (o : Option (Contract FutureTerms)) → IsProp (FutureKept o)
future_prop None p q = refl
future_prop (Some x) p q = λ i. record {
  within = future_within_prop _ p.within q.within i;
  tick_least = le_prop p.tick_least q.tick_least i;
  tick_most = le_prop p.tick_most q.tick_most i;
  rate_most = le_prop p.rate_most q.rate_most i;
}

covers_prop : (f : Option (Contract FutureTerms)) (x : Contract OptionTerms) → IsProp (Covers f x)
covers_prop None x p q = absurd p
covers_prop (Some f) x p q = le_prop p q

option_prop : (s : Ledger) (o : Option (Contract OptionTerms)) → IsProp (OptionKept s o)
option_prop s None p q = refl
option_prop s (Some x) p q = λ i. record {
  within = option_within_prop _ p.within q.within i;
  tick_least = le_prop p.tick_least q.tick_least i;
  tick_most = le_prop p.tick_most q.tick_most i;
  lasts = le_prop p.lasts q.lasts i;
  last_most = le_prop p.last_most q.last_most i;
  rate_most = le_prop p.rate_most q.rate_most i;
  covers = covers_prop (future_under s (Some x)) x p.covers q.covers i;
}

contracts_prop : (s : Ledger) → IsProp (ContractsKept s)
contracts_prop s p q = λ i. record {
  futures = λ k h. future_prop (future_of s k) (p.futures k h) (q.futures k h) i;
  options = λ k h. option_prop s (option_of s k) (p.options k h) (q.options k h) i;
}

cash_prop : (s : Ledger) → IsProp (CashKept s)
cash_prop s p q = λ i. record { in_range = λ a h. le_prop (p.in_range a h) (q.in_range a h) i }

lots_prop : (s : Ledger) → IsProp (LotsKept s)
lots_prop s p q = λ i. record { balanced = λ k h. Coded-set coded_ℕ _ _ (p.balanced k h) (q.balanced k h) i }

sound_prop : (s : Ledger) → IsProp (Sound s)
sound_prop s p q = λ i. record {
  shape = shape_prop s p.shape q.shape i;
  contracts = contracts_prop s p.contracts q.contracts i;
  cash = cash_prop s p.cash q.cash i;
  lots = lots_prop s p.lots q.lots i;
}

-- the invariant is held between bars, so that it is a proposition to all: this takes it out
pub sound_of : {s : Ledger} → ∥ Sound s ∥₁ → Sound s
sound_of {s} e = ∥∥₁_elim e (sound_prop s) (λ x. x)

none_at : {X : Type 0} (n k : ℕ) → get_or {A = Option X} (replicate n None) k None ≡ None
none_at zero k = refl
none_at (suc n) zero = refl
none_at (suc n) (suc k) = none_at n k

-- a new account's holdings are empty
empty_at : (a k : ℕ) → a < 32 → k < 20 → get_or (get_or (replicate 32 opened) a no_account).holdings.rows k no_holding ≡ no_holding
empty_at a k h g = rw (get_or-replicate 32 a opened no_account h) (get_or-replicate 20 k no_holding no_holding g)

pub made_sound : (n : ℕ) → Sound (made n)
unfolding made
made_sound n = record {
  shape = record {
    accounts = length-replicate 32 opened;
    holdings = λ a h. rw (get_or-replicate 32 a opened no_account h) (length-replicate 20 no_holding);
    futures = length-replicate {A = Option (Contract FutureTerms)} 4 None;
    options = length-replicate {A = Option (Contract OptionTerms)} 16 None;
    requests = length-replicate {A = Option Request} 256 None;
  };
  contracts = record {
    futures = λ k h. elim (ltb k 4) as (λ b. FutureKept (cond b (get_or (replicate 4 None) k None) None)) [ true ↦ rw (none_at 4 k) tt | false ↦ tt ];
    options = λ k h. elim (ltb k 4) as (λ b. OptionKept (made n) (cond b None (cond (ltb k 20) (get_or (replicate 16 None) (k - 4) None) None))) [
      | true ↦ tt
      | false ↦ elim (ltb k 20) as (λ b. OptionKept (made n) (cond b (get_or (replicate 16 None) (k - 4) None) None)) [ true ↦ rw (none_at 16 (k - 4)) tt | false ↦ tt ]
    ];
  };
  cash = record { in_range = λ a h. rw (get_or-replicate 32 a opened no_account h) (omega arith) };
  lots = record { balanced = λ k h. ap (λ (m : ℕ). m + 0) (sum_to_same 32 _ _ (λ a g. ap (λ (x : Holding). x.long) (empty_at a k g h) ∙ sym (ap (λ (x : Holding). x.short) (empty_at a k g h)))) };
}

-- a new book has no cash
pub made_empty : (n : ℕ) → all_cash (made n) ≡ pos 0
unfolding made
made_empty n =
    let none = total_to_same 32 (cash_of (made n)) (λ a. pos 0) (λ a h. ap (λ (x : Account). x.cash) (get_or-replicate 32 a opened no_account h)) in
    omega (arith, ints, none, total_to_zero 32)

-- what is listed as a future at any number is within the limits
pub future_kept : (s : Ledger) → Sound s → (k : ℕ) → FutureKept (future_of s k)
future_kept s h k = elim (cases_lt k 20) [
  | inl low ↦ h.contracts.futures k low
  | inr high ↦ rw (le-ltb k 4 (omega (arith, high))) tt
]
