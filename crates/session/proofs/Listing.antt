-- What a listing that meets no refusal tells, and that it keeps the invariant under every lawful margin rule. Assumes nothing.
use Rattle.std.proofs.Common.{◌≡◌, ℕ, ◌^◌, ◌<◌, ◌≤◌, Bool, true, false, cond, not, leb, is_some, Some, None, Option, refl, arith}
use Rattle.std.proofs.lemmas.Bool.Decides.{nat_tests}
use Rattle.refusals.specs.declared.Refusal.{Refusal}
use Rattle.margin.specs.Limits.{OptionWithin}
use Rattle.margin.specs.Rules.{Rule, Lawful}
use Rattle.ledger.specs.Ledger.{Ledger, future_of}
use Rattle.ledger.specs.Kept.{Sound, FutureSound, FutureKept, Covers, OptionSound, future_lot}
use Rattle.ledger.specs.declared.records.Slip.{Slip}
use Rattle.ledger.specs.declared.records.Contract.{Contract}
use Rattle.kinds.specs.declared.terms.FutureTerms.{FutureTerms}
use Rattle.ledger.proofs.Changes.{keep_future, keep_option}
use Rattle.session.specs.Limits.{outside, bad_price}
use Rattle.session.specs.Listings.{future_listing_refusal, future_listing_effect, listed_future, future_contract, FutureListable, option_listing_refusal, option_listing_effect, listed_option, option_contract, asked_rate, OptionListable}
use Rattle.session.specs.declared.orders.FutureListing.{FutureListing}
use Rattle.session.specs.declared.orders.OptionListing.{OptionListing}

-- a row that was passed: its test failed, and no later row was met
pub passed : (b : Bool) (r : Refusal) (rest : Option Refusal) → cond b (Some r) rest ≡ None → (b ≡ false) × (rest ≡ None)
passed true r rest e = absurd (grind (arith, nat_tests))
passed false r rest e = (refl, e)

under : (n k : ℕ) → leb n k ≡ false → k < n
under n k e = grind (arith, nat_tests)

inside : {least most x : ℕ} → outside least most x ≡ false → (least ≤ x) × (x ≤ most)
inside e = (grind (arith, nat_tests), grind (arith, nat_tests))

good_price : (tick price : ℕ) → bad_price tick price ≡ false → (1 ≤ price) × (price ≤ 99999999)
good_price tick price e = (grind (arith, nat_tests), grind (arith, nat_tests))

pub future_listable : (s : Ledger) (slip : Slip) (l : FutureListing) → future_listing_refusal s slip l ≡ None → FutureListable l
future_listable s slip l e =
    let number = passed _ _ _ (passed _ _ _ e).1 in
    let units = passed _ _ _ number.1 in
    let tick = passed _ _ _ units.1 in
    let ratio = passed _ _ _ tick.1 in
    let price = passed _ _ _ ratio.1 in
    record {
      number_most = under 4 l.number number.0;
      within = record {
        price_least = (good_price l.tick l.price price.0).0;
        price_most = (good_price l.tick l.price price.0).1;
        units_least = (inside units.0).0;
        units_most = (inside units.0).1;
        ratio_least = (inside ratio.0).0;
        ratio_most = (inside ratio.0).1;
      };
      tick_least = (inside tick.0).0;
      tick_most = (inside tick.0).1;
    }

is_none : {X : Type 0} (o : Option X) → is_some o ≡ false → o ≡ None
is_none None e = refl
is_none (Some x) e = absurd (grind (arith, nat_tests))

-- the number was free
pub future_free : (s : Ledger) (slip : Slip) (l : FutureListing) → future_listing_refusal s slip l ≡ None → is_some (future_of s l.number) ≡ false
future_free s slip l e = grind (arith, nat_tests)

-- the future as it is listed, at the rate that a lawful rule asks, is within the limits
pub future_sound : (rule : Rule) → Lawful rule → (l : FutureListing) → FutureListable l → FutureSound (future_contract l (rule.future_sum (listed_future l)))
future_sound rule lawful l known =
    let w = known.within in
    record {
      within = record { price_least = w.price_least; price_most = w.price_most; units_least = w.units_least; units_most = w.units_most; ratio_least = w.ratio_least; ratio_most = w.ratio_most };
      tick_least = known.tick_least;
      tick_most = known.tick_most;
      rate_most = lawful.future_most (listed_future l) w;
    }

pub future_listing_keeps : (rule : Rule) → Lawful rule → (s : Ledger) (slip : Slip) (l : FutureListing) → Sound s → future_listing_refusal s slip l ≡ None → Sound (future_listing_effect s l (rule.future_sum (listed_future l)))
future_listing_keeps rule lawful s slip l h e =
    let known = future_listable s slip l e in
    keep_future s l.number _ h known.number_most (is_none (future_of s l.number) (future_free s slip l e)) (future_sound rule lawful l known)

-- the rows that an option's listing passed
pub record OptionRows (s : Ledger) (l : OptionListing) : Type 0 where
  pub number : outside 4 19 l.number ≡ false
  pub future : not (is_some (future_of s l.future)) ≡ false
  pub strike : outside 1 99999999 l.strike ≡ false
  pub tick : outside 1 100000 l.tick ≡ false
  pub last_day : outside s.day 1000000 l.last_day ≡ false
  pub price : bad_price l.tick l.price ≡ false

pub option_rows : (s : Ledger) (slip : Slip) (l : OptionListing) → option_listing_refusal s slip l ≡ None → OptionRows s l
option_rows s slip l e =
    let number = passed _ _ _ (passed _ _ _ e).1 in
    let future = passed _ _ _ number.1 in
    let strike = passed _ _ _ future.1 in
    let tick = passed _ _ _ strike.1 in
    let last = passed _ _ _ tick.1 in
    let price = passed _ _ _ last.1 in
    record { number = number.0; future = future.0; strike = strike.0; tick = tick.0; last_day = last.0; price = price.0 }

future_number : (s : Ledger) (k : ℕ) → not (is_some (future_of s k)) ≡ false → k < 4
future_number s k e = grind (arith, nat_tests)

pub option_listable : (s : Ledger) (l : OptionListing) → OptionRows s l → OptionListable s.day l
option_listable s l rows = record {
  number_least = (inside rows.number).0;
  number_most = (let few : l.number ≤ 19 = (inside rows.number).1 in omega arith);
  future_most = future_number s l.future rows.future;
  within = record {
    strike_least = (inside rows.strike).0;
    strike_most = (inside rows.strike).1;
    price_least = (good_price l.tick l.price rows.price).0;
    price_most = (good_price l.tick l.price rows.price).1;
  };
  tick_least = (inside rows.tick).0;
  tick_most = (inside rows.tick).1;
  lasts = (inside rows.last_day).0;
  last_most = (inside rows.last_day).1;
}

-- the rate that a lawful rule asks for an option on a listed future
asked_most : (rule : Rule) → Lawful rule → (f : Option (Contract FutureTerms)) (l : OptionListing) → FutureKept f → OptionWithin (listed_option l) → asked_rate rule f l ≤ 10 ^ 12
asked_most rule lawful None l h w = omega arith
asked_most rule lawful (Some f) l h w = lawful.option_most (future_lot f) (listed_option l) h.within w

-- and that it covers what the option costs
asked_covers : (rule : Rule) → Lawful rule → (f : Option (Contract FutureTerms)) (l : OptionListing) → not (is_some f) ≡ false → FutureKept f → OptionWithin (listed_option l) → Covers f (option_contract l (asked_rate rule f l))
asked_covers rule lawful None l listed h w = absurd (grind (arith, nat_tests))
asked_covers rule lawful (Some f) l listed h w = lawful.option_covers (future_lot f) (listed_option l) h.within w

-- so the option as it is listed, at that rate, is sound
pub option_sound : (rule : Rule) → Lawful rule → (s : Ledger) (slip : Slip) (l : OptionListing) → Sound s → option_listing_refusal s slip l ≡ None → OptionSound s (option_contract l (asked_rate rule (future_of s l.future) l))
option_sound rule lawful s slip l h e =
    let rows = option_rows s slip l e in
    let known = option_listable s l rows in
    let w = known.within in
    let f = future_of s l.future in
    let sound = h.contracts.futures l.future (omega (arith, known.future_most)) in
    record {
      within = record { strike_least = w.strike_least; strike_most = w.strike_most; price_least = w.price_least; price_most = w.price_most };
      tick_least = known.tick_least;
      tick_most = known.tick_most;
      lasts = known.lasts;
      last_most = known.last_most;
      rate_most = asked_most rule lawful f l sound w;
      covers = asked_covers rule lawful f l rows.future sound w;
    }

pub option_listing_keeps : (rule : Rule) → Lawful rule → (s : Ledger) (slip : Slip) (l : OptionListing) → Sound s → option_listing_refusal s slip l ≡ None → Sound (option_listing_effect s l (asked_rate rule (future_of s l.future) l))
option_listing_keeps rule lawful s slip l h e =
    let known = option_listable s l (option_rows s slip l e) in
    keep_option s l.number _ h known.number_least known.number_most (option_sound rule lawful s slip l h e)
