-- What every book keeps, by the part of the ledger that it speaks of. Assumes nothing.
use Rattle.std.specs.Prelude.{◌≡◌, ℕ, ◌+◌, ◌*◌, ◌^◌, ◌<◌, ◌≤◌, length, Some, None, Option, slice_index_or}
use Rattle.margin.specs.Limits.{FutureWithin, OptionWithin}
use Rattle.margin.specs.declared.rule.FutureLot.{FutureLot}
use Rattle.margin.specs.declared.rule.OptionLot.{OptionLot}
use Rattle.ledger.specs.Sums.{sum_to}
use Rattle.ledger.specs.Ledger.{Ledger, no_account, cash_of, long_of, short_of, future_of, option_of, future_under, draw_long, draw_short}
use Rattle.ledger.specs.Funds.{InRange}
use Rattle.ledger.specs.declared.records.Contract.{Contract}
use Rattle.kinds.specs.declared.terms.FutureTerms.{FutureTerms}
use Rattle.kinds.specs.declared.terms.OptionTerms.{OptionTerms}

-- the tables have their places
pub record ShapeKept (s : Ledger) : Type 0 where
  pub accounts : length s.accounts ≡ 32
  pub holdings : (a : ℕ) → a < 32 → length (slice_index_or s.accounts a no_account).holdings.rows ≡ 20
  pub futures : length s.futures ≡ 4
  pub options : length s.options ≡ 16
  pub requests : length s.requests ≡ 256

-- what a margin rule is asked with for a listed future, at its carried price
abbrev pub future_lot : Contract FutureTerms → FutureLot
future_lot x = record { price = x.carried; units = x.terms.units; ratio = x.terms.ratio }

-- and for a listed option
abbrev pub option_lot : Contract OptionTerms → OptionLot
option_lot x = record { right = x.terms.right; strike = x.terms.strike; price = x.carried }

-- a listed future is within the limits
pub record FutureSound (x : Contract FutureTerms) : Type 0 where
  pub within : FutureWithin (future_lot x)
  pub tick_least : 1 ≤ x.terms.tick
  pub tick_most : x.terms.tick ≤ 100000
  pub rate_most : x.rate ≤ 10 ^ 12

-- where a future is listed
abbrev pub FutureKept : Option (Contract FutureTerms) → Type 0
FutureKept None = Unit {0}
FutureKept (Some x) = FutureSound x

-- there is a future, and a short lot's rate is no less than its cost at the carried price, in that future's units
abbrev pub Covers : Option (Contract FutureTerms) → Contract OptionTerms → Type 0
Covers None x = ⊥
Covers (Some f) x = x.carried * f.terms.units ≤ x.rate

-- a listed option is within the limits, its last day not before today, its future listed, its rate above its cost
pub record OptionSound (s : Ledger) (x : Contract OptionTerms) : Type 0 where
  pub within : OptionWithin (option_lot x)
  pub tick_least : 1 ≤ x.terms.tick
  pub tick_most : x.terms.tick ≤ 100000
  pub lasts : s.day ≤ x.terms.last_day
  pub last_most : x.terms.last_day ≤ 1000000
  pub rate_most : x.rate ≤ 10 ^ 12
  pub covers : Covers (future_under s (Some x)) x

-- where an option is listed
abbrev pub OptionKept : Ledger → Option (Contract OptionTerms) → Type 0
OptionKept s None = Unit {0}
OptionKept s (Some x) = OptionSound s x

-- whatever is listed at the twenty numbers is sound
pub record ContractsKept (s : Ledger) : Type 0 where
  pub futures : (k : ℕ) → k < 20 → FutureKept (future_of s k)
  pub options : (k : ℕ) → k < 20 → OptionKept s (option_of s k)

-- every account's cash is in range
pub record CashKept (s : Ledger) : Type 0 where
  pub in_range : (a : ℕ) → a < 32 → InRange (cash_of s a)

-- in each contract the long lots of the accounts and the open draw are as many as the short lots
abbrev pub Even : Ledger → ℕ → Type 0
Even s k = sum_to 32 (λ a. long_of s a k) + draw_long s k ≡ sum_to 32 (λ a. short_of s a k) + draw_short s k

-- long lots are as many as short lots in each contract
pub record LotsKept (s : Ledger) : Type 0 where
  pub balanced : (k : ℕ) → k < 20 → Even s k

-- what every book keeps
pub record Sound (s : Ledger) : Type 0 where
  pub shape : ShapeKept s
  pub contracts : ContractsKept s
  pub cash : CashKept s
  pub lots : LotsKept s

-- what every book keeps, as a proposition
abbrev pub Kept : Ledger → Type 0
Kept s = ∥ Sound s ∥₁
