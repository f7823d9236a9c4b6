-- The tests that the rows of several calls share. Assumes nothing.
use Rattle.std.specs.Prelude.{ℕ, ◌%◌, Bool, cond, not, ◌||◌, Ok, Err, Result, ◌==◌, nat_lt}
use Rattle.refusals.specs.declared.Refusal.{Refusal}
use Rattle.refusals.specs.declared.Refusal.TheVariants.{OutOfLimits}

-- below the least or above the most
abbrev pub outside : ℕ → ℕ → ℕ → Bool
outside least most x = nat_lt x least || nat_lt most x

-- a price is 1 to 99,999,999 fen and a multiple of its own contract's tick
abbrev pub bad_price : ℕ → ℕ → Bool
bad_price tick price = outside 1 99999999 price || not (price % tick == 0)

-- a bad field is refused by its rank
abbrev pub ranked : ℕ → Bool → Result (Unit {0}) Refusal
ranked rank bad = cond bad (Err (OutOfLimits rank)) (Ok tt)
