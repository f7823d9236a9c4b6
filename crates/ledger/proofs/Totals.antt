-- Sums over the numbers below a number: one term more, terms that agree, one term changed, terms that are each at most another's. Assumes nothing.
use Rattle.std.proofs.Common.{◌≡◌, ℕ, zero, suc, ◌+◌, ◌<◌, ◌≤◌, ℤ, pos, ◌+ℤ◌, refl, inl, inr, add-one, arith}
use Rattle.std.proofs.lemmas.Int.{ints}
use Rattle.std.proofs.lemmas.Bool.{cases_eq}
use Rattle.ledger.specs.Sums.{sum_to, total_to}

pub sum_to_more : (n : ℕ) (f : ℕ → ℕ) → sum_to (n + 1) f ≡ sum_to n f + f n
unfolding sum_to
sum_to_more n f = rw (add-one n) refl

pub sum_to_none : (f : ℕ → ℕ) → sum_to 0 f ≡ 0
unfolding sum_to
sum_to_none f = refl

pub sum_to_mono : (n : ℕ) (f g : ℕ → ℕ) → ((k : ℕ) → k < n → f k ≤ g k) → sum_to n f ≤ sum_to n g
unfolding sum_to
sum_to_mono zero f g h = omega arith
sum_to_mono (suc n) f g h = omega (arith, sum_to_mono n f g (λ k lt. h k (omega arith)), h n (omega arith))

pub sum_to_same : (n : ℕ) (f g : ℕ → ℕ) → ((k : ℕ) → k < n → f k ≡ g k) → sum_to n f ≡ sum_to n g
unfolding sum_to
sum_to_same zero f g h = refl
sum_to_same (suc n) f g h = omega (arith, sum_to_same n f g (λ k lt. h k (omega arith)), h n (omega arith))

pub total_to_same : (n : ℕ) (f g : ℕ → ℤ) → ((k : ℕ) → k < n → f k ≡ g k) → total_to n f ≡ total_to n g
unfolding total_to
total_to_same zero f g h = refl
total_to_same (suc n) f g h = omega (arith, ints, total_to_same n f g (λ k lt. h k (omega arith)), h n (omega arith))

-- one term has changed by d
pub total_to_changed : (n : ℕ) (f g : ℕ → ℤ) (a : ℕ) (d : ℤ) → a < n → g a ≡ f a +ℤ d → ((k : ℕ) → (k ≡ a → ⊥) → g k ≡ f k) → total_to n g ≡ total_to n f +ℤ d
unfolding total_to
total_to_changed zero f g a d lt at else = absurd (omega arith)
total_to_changed (suc n) f g a d lt at else = elim (cases_eq n a) [
  | inl same ↦ (let last : g n ≡ f n +ℤ d = rw same at in omega (arith, ints, total_to_same n g f (λ k h. else k (λ e. omega arith))))
  | inr other ↦ omega (arith, ints, total_to_changed n f g a d (omega arith) at else, else n other)
]

pub total_to_zero : (n : ℕ) → total_to n (λ k. pos 0) ≡ pos 0
unfolding total_to
total_to_zero zero = refl
total_to_zero (suc n) = rw (total_to_zero n) refl
