-- Sums over the numbers below a number. Assumes nothing.
use Rattle.std.specs.Prelude.{ℕ, zero, suc, ◌+◌, ℤ, pos, ◌+ℤ◌}

-- f 0 + .. + f (n - 1)
unfoldable pub sum_to : ℕ → (ℕ → ℕ) → ℕ
sum_to zero f = 0
sum_to (suc n) f = sum_to n f + f n

-- the same of signed numbers
unfoldable pub total_to : ℕ → (ℕ → ℤ) → ℤ
total_to zero f = pos 0
total_to (suc n) f = total_to n f +ℤ f n
