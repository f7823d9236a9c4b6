-- A text cut at the first byte of a kind. Assumes nothing.
use Rattle.std.specs.Prelude.{ℕ, List, ◌==◌}
use Rattle.std.specs.List.{before_first, after_first}

-- what stands before the first `mark`, or all where there is none
abbrev pub before : ℕ → List ℕ → List ℕ
before mark text = before_first (λ b. b == mark) text

-- what stands after it, or nothing where there is none
abbrev pub after : ℕ → List ℕ → List ℕ
after mark text = after_first (λ b. b == mark) text
