-- The flat rule: one sum for every lot. Assumes nothing.
use Rattle.std.specs.Prelude.{ℕ, ◌+◌, ◌*◌}
use Rattle.margin.specs.Rules.{Rule}

-- for a future the sum, for an option its price × units and the sum
abbrev pub flat : ℕ → Rule
flat sum = record { future_sum = λ f. sum; option_sum = λ f o. o.price * f.units + sum }
