-- The limits of the numbers that a margin rule is asked with. Assumes nothing.
use Rattle.std.specs.Prelude.{◌≤◌}
use Rattle.margin.specs.declared.rule.FutureLot.{FutureLot}
use Rattle.margin.specs.declared.rule.OptionLot.{OptionLot}

-- a price of 1 to 99,999,999 fen, 1 to 1,000 units a lot, a futures rate of 1 to 10,000 ten-thousandths
pub record FutureWithin (f : FutureLot) : Type 0 where
  pub price_least : 1 ≤ f.price
  pub price_most : f.price ≤ 99999999
  pub units_least : 1 ≤ f.units
  pub units_most : f.units ≤ 1000
  pub ratio_least : 1 ≤ f.ratio
  pub ratio_most : f.ratio ≤ 10000

-- a strike and a price of 1 to 99,999,999 fen
pub record OptionWithin (o : OptionLot) : Type 0 where
  pub strike_least : 1 ≤ o.strike
  pub strike_most : o.strike ≤ 99999999
  pub price_least : 1 ≤ o.price
  pub price_most : o.price ≤ 99999999
