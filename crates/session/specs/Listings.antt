-- Listings: the rows in their order, and what is done. Assumes nothing.
use Rattle.std.specs.Prelude.{ℕ, ◌<◌, ◌≤◌, cond, not, is_some, Some, None, Option, nat_le}
use Rattle.refusals.specs.declared.Refusal.{Refusal}
use Rattle.refusals.specs.declared.Refusal.TheVariants.{WrongSlip, NoSuch, OutOfLimits, Occupied}
use Rattle.margin.specs.Limits.{FutureWithin, OptionWithin}
use Rattle.margin.specs.Rules.{Rule}
use Rattle.margin.specs.declared.rule.FutureLot.{FutureLot}
use Rattle.margin.specs.declared.rule.OptionLot.{OptionLot}
use Rattle.ledger.specs.Ledger.{Ledger, future_of, option_of, with_future, with_option}
use Rattle.ledger.specs.Kept.{future_lot}
use Rattle.ledger.specs.Slips.{wrong_slip}
use Rattle.ledger.specs.Calls.{Outcome, unless}
use Rattle.ledger.specs.declared.records.Reply.TheVariants.{Done}
use Rattle.ledger.specs.declared.records.Slip.{Slip}
use Rattle.ledger.specs.declared.records.Stage.TheVariants.{Trading}
use Rattle.ledger.specs.declared.records.Contract.{Contract}
use Rattle.kinds.specs.declared.terms.FutureTerms.{FutureTerms}
use Rattle.kinds.specs.declared.terms.OptionTerms.{OptionTerms}
use Rattle.session.specs.Limits.{outside, bad_price}
use Rattle.session.specs.declared.orders.FutureListing.{FutureListing}
use Rattle.session.specs.declared.orders.OptionListing.{OptionListing}

-- a number of a future, four fields within their limits, a price on the tick, and a number that is free
abbrev pub future_listing_refusal : Ledger → Slip → FutureListing → Option Refusal
future_listing_refusal s slip l =
    cond (wrong_slip s slip Trading) (Some (WrongSlip slip.number))
    (cond (nat_le 4 l.number) (Some (NoSuch l.number))
    (cond (outside 1 1000 l.units) (Some (OutOfLimits 2))
    (cond (outside 1 100000 l.tick) (Some (OutOfLimits 3))
    (cond (outside 1 10000 l.ratio) (Some (OutOfLimits 4))
    (cond (bad_price l.tick l.price) (Some (OutOfLimits 5))
    (cond (is_some (future_of s l.number)) (Some (Occupied l.number))
    None))))))

-- what the margin rule is asked with: the price listed is the one carried
abbrev pub listed_future : FutureListing → FutureLot
listed_future l = record { price = l.price; units = l.units; ratio = l.ratio }

-- the future as it is listed, at a rate
abbrev pub future_contract : FutureListing → ℕ → Contract FutureTerms
future_contract l rate = record { terms = record { units = l.units; tick = l.tick; ratio = l.ratio }; carried = l.price; rate = rate }

-- the number has the future
abbrev pub future_listing_effect : Ledger → FutureListing → ℕ → Ledger
future_listing_effect s l rate = with_future s l.number (future_contract l rate)

-- what the listing of a future comes to, at the rate that the rule asks
unfoldable pub future_listed : Rule → Ledger → Slip → FutureListing → Outcome
future_listed rule s slip l = unless (future_listing_refusal s slip l) Done (future_listing_effect s l (rule.future_sum (listed_future l)))

-- the last day may be today
abbrev pub option_listing_refusal : Ledger → Slip → OptionListing → Option Refusal
option_listing_refusal s slip l =
    cond (wrong_slip s slip Trading) (Some (WrongSlip slip.number))
    (cond (outside 4 19 l.number) (Some (NoSuch l.number))
    (cond (not (is_some (future_of s l.future))) (Some (NoSuch l.future))
    (cond (outside 1 99999999 l.strike) (Some (OutOfLimits 5))
    (cond (outside 1 100000 l.tick) (Some (OutOfLimits 6))
    (cond (outside s.day 1000000 l.last_day) (Some (OutOfLimits 7))
    (cond (bad_price l.tick l.price) (Some (OutOfLimits 8))
    (cond (is_some (option_of s l.number)) (Some (Occupied l.number))
    None)))))))

-- what the margin rule is asked with for the option
abbrev pub listed_option : OptionListing → OptionLot
listed_option l = record { right = l.right; strike = l.strike; price = l.price }

-- the rate is asked at the price carried for the future and the option's own price listed
abbrev pub asked_rate : Rule → Option (Contract FutureTerms) → OptionListing → ℕ
asked_rate rule None l = 0
asked_rate rule (Some f) l = rule.option_sum (future_lot f) (listed_option l)

-- the option as it is listed, at a rate
abbrev pub option_contract : OptionListing → ℕ → Contract OptionTerms
option_contract l rate = record { terms = record { future = l.future; right = l.right; style = l.style; strike = l.strike; tick = l.tick; last_day = l.last_day }; carried = l.price; rate = rate }

-- the number has the option
abbrev pub option_listing_effect : Ledger → OptionListing → ℕ → Ledger
option_listing_effect s l rate = with_option s l.number (option_contract l rate)

-- what the listing of an option comes to, at the rate that the rule asks
unfoldable pub option_listed : Rule → Ledger → Slip → OptionListing → Outcome
option_listed rule s slip l = unless (option_listing_refusal s slip l) Done (option_listing_effect s l (asked_rate rule (future_of s l.future) l))

-- a future's listing within the limits, as one that meets no refusal is
pub record FutureListable (l : FutureListing) : Type 0 where
  pub number_most : l.number < 4
  pub within : FutureWithin (listed_future l)
  pub tick_least : 1 ≤ l.tick
  pub tick_most : l.tick ≤ 100000

-- an option's listing within the limits of a day, as one that meets no refusal is
pub record OptionListable (day : ℕ) (l : OptionListing) : Type 0 where
  pub number_least : 4 ≤ l.number
  pub number_most : l.number < 20
  pub future_most : l.future < 4
  pub within : OptionWithin (listed_option l)
  pub tick_least : 1 ≤ l.tick
  pub tick_most : l.tick ≤ 100000
  pub lasts : day ≤ l.last_day
  pub last_most : l.last_day ≤ 1000000
