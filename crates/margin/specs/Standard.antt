-- The standard rule, counted exactly in parts of which 20,000 make a fen, and rounded up once. Assumes nothing.
use Rattle.std.specs.Prelude.{ℕ, ◌+◌, ◌-◌, ◌*◌, max}
use Rattle.margin.specs.Rounding.{rounded_up}
use Rattle.margin.specs.Rules.{Rule}
use Rattle.margin.specs.declared.rule.Right.{Right}
use Rattle.margin.specs.declared.rule.Right.TheVariants.{Call, Put}
use Rattle.margin.specs.declared.rule.FutureLot.{FutureLot}
use Rattle.margin.specs.declared.rule.OptionLot.{OptionLot}

-- half of F, in parts; F is the future's price × units × rate / 10,000 fen
abbrev pub half_parts : FutureLot → ℕ
half_parts f = f.price * f.units * f.ratio

-- F in parts
abbrev pub future_parts : FutureLot → ℕ
future_parts f = 2 * half_parts f

-- how far a strike is out of the money, in fen a unit: a call's above the price, a put's below it, and otherwise 0
abbrev pub out_by : Right → ℕ → ℕ → ℕ
out_by Call strike price = strike - price
out_by Put strike price = price - strike

-- half of O, in parts; O is the out-of-the-money sum of a lot in fen
abbrev pub half_out_parts : FutureLot → OptionLot → ℕ
half_out_parts f o = 10000 * (out_by o.right o.strike f.price * f.units)

-- the option's price × units, in parts
abbrev pub price_parts : FutureLot → OptionLot → ℕ
price_parts f o = 20000 * (o.price * f.units)

-- the larger of price + F - O / 2 and price + F / 2; where the first would be below 0, - stops at 0, and the second is the larger either way
abbrev pub option_parts : FutureLot → OptionLot → ℕ
option_parts f o = max (price_parts f o + future_parts f - half_out_parts f o) (price_parts f o + half_parts f)

-- F, and the larger of the two, each rounded up once
abbrev pub standard : Rule
standard = record {
  future_sum = λ f. rounded_up (future_parts f) 20000;
  option_sum = λ f o. rounded_up (option_parts f o) 20000;
}
