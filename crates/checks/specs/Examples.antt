-- What the rules ask for, worked out. Assumes nothing.
use Rattle.std.specs.Prelude.{◌≡◌, ℕ}
use Rattle.margin.specs.Standard.{standard}
use Rattle.margin.specs.AddOn.{added}
use Rattle.margin.specs.declared.rule.Right.{Right}
use Rattle.margin.specs.declared.rule.Right.TheVariants.{Call, Put}
use Rattle.margin.specs.declared.rule.FutureLot.{FutureLot}
use Rattle.margin.specs.declared.rule.OptionLot.{OptionLot}

-- a future at a price in fen a unit, with its units and its rate in ten-thousandths
abbrev pub lot : ℕ → ℕ → ℕ → FutureLot
lot price units ratio = record { price = price; units = units; ratio = ratio }

-- a right at a strike, and the option's price
abbrev pub option : Right → ℕ → ℕ → OptionLot
option right strike price = record { right = right; strike = strike; price = price }

-- the sums for short options under the standard rule, and once under an add-on of a quarter; the last is 1.7 or 1.6 before it is rounded
abbrev pub Examples : Type 0
Examples =
    (standard.option_sum (lot 2000000 5 1000) (option Call 2100000 30000) ≡ 900000)
    × ((added 2500 standard).option_sum (lot 2000000 5 1000) (option Call 2100000 30000) ≡ 1125000)
    × (standard.option_sum (lot 2000000 5 1000) (option Call 2400000 30000) ≡ 650000)
    × (standard.option_sum (lot 2000000 5 1000) (option Put 2100000 105000) ≡ 1525000)
    × (standard.option_sum (lot 12 1 1000) (option Call 13 1) ≡ 2)
