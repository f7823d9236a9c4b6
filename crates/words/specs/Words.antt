-- The words of a command, as lists of bytes, by place. Assumes nothing.
use Rattle.std.specs.Prelude.{ℕ, cond, List, [], length, Ok, Err, Result, nat_le, slice_index_or}
use Rattle.std.specs.Borrow.{Bor}
use Rattle.words.specs.Numbers.{number_of}
use Rattle.words.specs.declared.unreadable.Unreadable.{Unreadable}
use Rattle.words.specs.declared.unreadable.Unreadable.TheVariants.{ExtraWord}

-- the bytes of a word
abbrev pub bytes : Bor (List ℕ) → List ℕ
bytes word = word.now

-- a second reading, where the first one gives something; else the first one's reason
infixl 10 ◌>>=◌
abbrev pub ◌>>=◌ : {A B : Type 0} → Result A Unreadable → (A → Result B Unreadable) → Result B Unreadable
(Ok a) >>= next = next a
(Err why) >>= next = Err why

-- the word at a place; a missing one is empty
abbrev pub at : List (List ℕ) → ℕ → List ℕ
at words place = slice_index_or words place []

-- the number of 64 bits at a place
abbrev pub number_at : List (List ℕ) → ℕ → Result ℕ Unreadable
number_at words place = number_of 18446744073709551615 (at words place)

-- the same of 32 bits
abbrev pub short_number_at : List (List ℕ) → ℕ → Result ℕ Unreadable
short_number_at words place = number_of 4294967295 (at words place)

-- no more words than `count`
abbrev pub only : List (List ℕ) → ℕ → Result (Unit {0}) Unreadable
only words count = cond (nat_le (length words) count) (Ok tt) (Err ExtraWord)
