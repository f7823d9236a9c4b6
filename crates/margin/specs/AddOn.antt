-- An add-on above another rule. Assumes nothing.
use Rattle.std.specs.Prelude.{ℕ, ◌+◌, ◌*◌, ◌^◌, min}
use Rattle.margin.specs.Rounding.{rounded_up}
use Rattle.margin.specs.Rules.{Rule}

-- a sum and an addition to it in ten-thousandths, rounded up, and at most 10^12
abbrev pub raised : ℕ → ℕ → ℕ
raised addition sum = min (rounded_up (sum * (10000 + addition)) 10000) (10 ^ 12)

-- both sums of the rule below, as it answers them, are raised
abbrev pub added : ℕ → Rule → Rule
added addition below = record {
  future_sum = λ f. raised addition (below.future_sum f);
  option_sum = λ f o. raised addition (below.option_sum f o);
}
