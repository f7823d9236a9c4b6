-- The law on runs, over the journal of accepted calls and the book that they reached. Assumes nothing.
use Rattle.std.specs.Prelude.{◌≡◌, ℕ, ◌+◌, ◌*◌, ◌<◌, ◌≤◌, Bool, true, false, cond, List, [], ◌∷◌, pos, ◌-ℤ◌, Some, None, Option, ◌==◌}
use Rattle.ledger.specs.Sums.{sum_to}
use Rattle.ledger.specs.Ledger.{Ledger, long_of, short_of, draw_long, draw_short}
use Rattle.ledger.specs.Funds.{all_cash, margin_of}
use Rattle.session.specs.declared.orders.FutureListing.{FutureListing}
use Rattle.session.specs.declared.orders.OptionListing.{OptionListing}
use Rattle.book.specs.Acts.{Act, depositing, withdrawing, listing_future, listing_option}

-- the amounts of the accepted deposits
abbrev pub deposits : List Act → ℕ
deposits [] = 0
deposits (depositing slip d ∷ j) = d.amount + deposits j
deposits (withdrawing slip w ∷ j) = deposits j
deposits (listing_future slip l ∷ j) = deposits j
deposits (listing_option slip l ∷ j) = deposits j

-- the amounts of the accepted withdrawals
abbrev pub withdrawals : List Act → ℕ
withdrawals [] = 0
withdrawals (depositing slip d ∷ j) = withdrawals j
withdrawals (withdrawing slip w ∷ j) = w.amount + withdrawals j
withdrawals (listing_future slip l ∷ j) = withdrawals j
withdrawals (listing_option slip l ∷ j) = withdrawals j

-- the newest listing of a future's number
abbrev pub future_listing : ℕ → List Act → Option FutureListing
future_listing k [] = None
future_listing k (depositing slip d ∷ j) = future_listing k j
future_listing k (withdrawing slip w ∷ j) = future_listing k j
future_listing k (listing_future slip l ∷ j) = cond (l.number == k) (Some l) (future_listing k j)
future_listing k (listing_option slip l ∷ j) = future_listing k j

-- the newest listing of an option's number
abbrev pub option_listing : ℕ → List Act → Option OptionListing
option_listing k [] = None
option_listing k (depositing slip d ∷ j) = option_listing k j
option_listing k (withdrawing slip w ∷ j) = option_listing k j
option_listing k (listing_future slip l ∷ j) = option_listing k j
option_listing k (listing_option slip l ∷ j) = cond (l.number == k) (Some l) (option_listing k j)

-- past its last day: a clearing was done on that day after its newest listing. None of these calls clears.
abbrev pub past : ℕ → List Act → Bool
past k [] = false
past k (depositing slip d ∷ j) = past k j
past k (withdrawing slip w ∷ j) = past k j
past k (listing_future slip l ∷ j) = past k j
past k (listing_option slip l ∷ j) = cond (l.number == k) false (past k j)

-- an option that is listed and not past
abbrev pub standing : ℕ → List Act → Option OptionListing
standing k j = cond (past k j) None (option_listing k j)

-- a listed future's units a lot
abbrev pub units_of : Option FutureListing → ℕ
units_of None = 0
units_of (Some l) = l.units

-- what a lot of an option costs at its carried price, which is that of its listing, in the units of its future's listing
abbrev pub lot_cost : List Act → Option OptionListing → ℕ
lot_cost j None = 0
lot_cost j (Some l) = l.price * units_of (future_listing l.future j)

-- the cost of buying back an account's short options
abbrev pub buying_back : List Act → Ledger → ℕ → ℕ
buying_back j s a = sum_to 20 (λ k. short_of s a k * lot_cost j (standing k j))

-- a contract in which no account and no open draw has a lot
pub record Bare (s : Ledger) (k : ℕ) : Type 0 where
  pub long : (a : ℕ) → a < 32 → long_of s a k ≡ 0
  pub short : (a : ℕ) → a < 32 → short_of s a k ≡ 0
  pub drawn_long : draw_long s k ≡ 0
  pub drawn_short : draw_short s k ≡ 0

-- what holds of a journal and the book that its calls reached
pub record Law (j : List Act) (s : Ledger) : Type 0 where
  -- long lots equal short lots in each contract
  pub balanced : (k : ℕ) → k < 20 → sum_to 32 (λ a. long_of s a k) + draw_long s k ≡ sum_to 32 (λ a. short_of s a k) + draw_short s k
  -- an option past its last day has neither
  pub gone : (k : ℕ) → k < 20 → past k j ≡ true → Bare s k
  -- cash adds up to the accepted deposits less the accepted withdrawals
  pub conserved : all_cash s ≡ pos (deposits j) -ℤ pos (withdrawals j)
  -- no account's margin is below the cost of buying back its short options
  pub covered : (a : ℕ) → a < 32 → buying_back j s a ≤ margin_of s a
