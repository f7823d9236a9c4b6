-- What a margin rule means, and the law that it keeps within the limits. Assumes nothing.
use Rattle.std.specs.Prelude.{ℕ, ◌*◌, ◌^◌, ◌≤◌}
use Rattle.margin.specs.Limits.{FutureWithin, OptionWithin}
use Rattle.margin.specs.declared.rule.FutureLot.{FutureLot}
use Rattle.margin.specs.declared.rule.OptionLot.{OptionLot}

-- two sums in fen: for a lot of a future, and for a short lot of an option on it
pub record Rule : Type 0 where
  pub future_sum : FutureLot → ℕ
  pub option_sum : FutureLot → OptionLot → ℕ

-- no sum above 10^12 fen, and none for a short option below the cost of buying it back, its price times its units
pub record Lawful (rule : Rule) : Type 0 where
  pub future_most : (f : FutureLot) → FutureWithin f → rule.future_sum f ≤ 10 ^ 12
  pub option_covers : (f : FutureLot) (o : OptionLot) → FutureWithin f → OptionWithin o → o.price * f.units ≤ rule.option_sum f o
  pub option_most : (f : FutureLot) (o : OptionLot) → FutureWithin f → OptionWithin o → rule.option_sum f o ≤ 10 ^ 12
