-- The slip that a call shows, as @BOOK.DAY writes it. Assumes nothing.
use Rattle.std.specs.Prelude.{ℕ, cond, List, [], ◌∷◌, Some, None, Option, ◌==◌}
use Rattle.std.specs.Option.{option_and_then}
use Rattle.words.specs.Cuts.{before, after}
use Rattle.words.specs.Numbers.{read_number}
use Rattle.words.specs.declared.slip.Shown.{Shown}

-- a second reading, where the first one gives something
infixl 10 ◌>>=◌
abbrev pub ◌>>=◌ : {A B : Type 0} → Option A → (A → Option B) → Option B
read >>= next = option_and_then next read

-- the slip that two numbers of 32 bits say
abbrev pub shown_by : List ℕ → List ℕ → Option Shown
shown_by book day = do
  b ← read_number book 4294967295
  d ← read_number day 4294967295
  Some (record { book = b; day = d })

-- the sign @, 64, then the two numbers around the first full stop, 46
abbrev pub slip_of : List ℕ → Option Shown
slip_of [] = None
slip_of (b ∷ bs) = cond (b == 64) (shown_by (before 46 bs) (after 46 bs)) None
