-- What a kind of contract means, the law that it keeps, and the kinds that there are. Assumes nothing.
use Rattle.std.specs.Prelude.{◌≡◌, ℕ, ◌+◌, ◌*◌, ◌^◌, ◌≤◌, ℤ, pos, ◌+ℤ◌, ◌-ℤ◌, ◌*ℤ◌, neg_ℤ, unsigned_abs}
use Rattle.kinds.specs.declared.terms.Holding.{Holding}
use Rattle.kinds.specs.declared.terms.FutureTerms.{FutureTerms}
use Rattle.kinds.specs.declared.terms.OptionTerms.{OptionTerms}

-- two sums in fen a lot, each of the units of a lot and two prices, and the margin of a whole holding
pub record Sums : Type 0 where
  -- what the buyer gets at a price while another is carried, opening or closing; the seller gets the opposite
  pub entry : ℕ → ℕ → ℕ → ℤ
  -- what a long lot gets when the carried price moves from one to another; a short lot gets the opposite
  pub mark : ℕ → ℕ → ℕ → ℤ
  -- of a margin rate and a holding: the lots on the sides that bear the rate, times the rate
  pub margin : ℕ → Holding → ℕ

-- what a kind means: the tick of its prices and the units of its lots by its terms, the latter also by the units of its future; and its sums
pub record Meaning (Terms : Type 0) : Type 0 where
  pub tick : Terms → ℕ
  pub units : Terms → ℕ → ℕ
  pub sums : Sums

-- units of at most 1,000 a lot, and prices of at most 99,999,999 fen
pub record Within (units price other : ℕ) : Type 0 where
  pub units_most : units ≤ 1000
  pub price_most : price ≤ 99999999
  pub other_most : other ≤ 99999999

-- entry under c plus mark from c to s does not depend on c, and a mark from c to c is 0; within the limits neither sum is above 10^11 fen either way,
-- and a margin is no more than both sides at the rate
pub record Lawful (sums : Sums) : Type 0 where
  pub settles : (units price c d s : ℕ) → sums.entry units price c +ℤ sums.mark units c s ≡ sums.entry units price d +ℤ sums.mark units d s
  pub still : (units c : ℕ) → sums.mark units c c ≡ pos 0
  pub entry_most : (units price c : ℕ) → Within units price c → unsigned_abs (sums.entry units price c) ≤ 10 ^ 11
  pub mark_most : (units c s : ℕ) → Within units c s → unsigned_abs (sums.mark units c s) ≤ 10 ^ 11
  pub margin_most : (rate : ℕ) (h : Holding) → sums.margin rate h ≤ (h.long + h.short) * rate

-- ---- futures

-- what a move of the price from one to another is worth on a lot
abbrev pub moved : ℕ → ℕ → ℕ → ℤ
moved units from to = (pos to -ℤ pos from) *ℤ pos units

-- the buyer at a price gets what a move from it to the carried price is worth; both sides bear the rate
abbrev pub future_sums : Sums
future_sums = record {
  entry = λ units price carried. moved units price carried;
  mark = λ units from to. moved units from to;
  margin = λ rate h. (h.long + h.short) * rate;
}

-- a future has its own tick and units
abbrev pub future : Meaning FutureTerms
future = record { tick = λ t. t.tick; units = λ t m. t.units; sums = future_sums }

-- ---- options

-- the buyer pays the price of a lot, the premium
abbrev pub paid : ℕ → ℕ → ℤ
paid units price = neg_ℤ (pos price *ℤ pos units)

-- only short lots bear the rate
abbrev pub option_margin : ℕ → Holding → ℕ
option_margin rate h = h.short * rate

-- an option is paid for at once, and a move of its price pays nothing
abbrev pub option_sums : Sums
option_sums = record {
  entry = λ units price carried. paid units price;
  mark = λ units from to. pos 0;
  margin = option_margin;
}

-- an option has the units of its future
abbrev pub option : Meaning OptionTerms
option = record { tick = λ t. t.tick; units = λ t m. m; sums = option_sums }
