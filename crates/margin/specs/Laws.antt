-- Each rule keeps the law: an add-on wherever the rule below does. Assumes nothing.
use Rattle.std.specs.Prelude.{ℕ, ◌*◌, ◌^◌, ◌≤◌}
use Rattle.std.proofs.Common.{mul-add, arith}
use Rattle.std.proofs.lemmas.Nat.{mul-le}
use Rattle.margin.specs.Limits.{FutureWithin, OptionWithin}
use Rattle.margin.specs.Rules.{Rule, Lawful}
use Rattle.margin.specs.Standard.{half_parts, standard}
use Rattle.margin.specs.Flat.{flat}
use Rattle.margin.specs.AddOn.{raised, added}
use Rattle.margin.specs.declared.rule.FutureLot.{FutureLot}
use Rattle.margin.specs.declared.rule.OptionLot.{OptionLot}

-- what the limits leave of a lot's price, of half of F, and of the cost of buying an option back
pub lot_most : (price units : ℕ) → price ≤ 99999999 → units ≤ 1000 → price * units ≤ 99999999000
lot_most price units h k = mul-le price units 99999999 1000 h k

half_most : (f : FutureLot) → FutureWithin f → half_parts f ≤ 999999990000000
half_most f h =
    mul-le (f.price * f.units) f.ratio 99999999000 10000 (lot_most f.price f.units h.price_most h.units_most) h.ratio_most

option_most : (f : FutureLot) (o : OptionLot) → FutureWithin f → OptionWithin o → o.price * f.units ≤ 99999999000
option_most f o h k = lot_most o.price f.units k.price_most h.units_most

-- the standard rule
pub standard_lawful : Lawful standard
standard_lawful = record {
  future_most = λ f h. omega (arith, half_most f h);
  option_covers = λ f o h k. omega arith;
  option_most = λ f o h k. omega (arith, half_most f h, option_most f o h k);
}

-- the flat rule, at a sum within its limit
pub flat_lawful : (sum : ℕ) → sum ≤ 10 ^ 11 → Lawful (flat sum)
flat_lawful sum most = record {
  future_most = λ f h. omega arith;
  option_covers = λ f o h k. omega arith;
  option_most = λ f o h k. omega (arith, option_most f o h k);
}

-- a raised sum covers what the sum covers, up to the cap
raised_covers : (addition sum cost : ℕ) → cost ≤ sum → cost ≤ 10 ^ 12 → cost ≤ raised addition sum
raised_covers addition sum cost h k = omega (arith, mul-add sum 10000 addition)

-- an add-on, whatever its addition, over a rule that keeps the law
pub added_lawful : (addition : ℕ) (below : Rule) → Lawful below → Lawful (added addition below)
added_lawful addition below lawful = record {
  future_most = λ f h. omega arith;
  option_covers = λ f o h k.
      raised_covers addition (below.option_sum f o) (o.price * f.units) (lawful.option_covers f o h k)
      (omega (arith, option_most f o h k));
  option_most = λ f o h k. omega arith;
}
