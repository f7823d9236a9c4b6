-- The numbers of a script. Assumes nothing.
use Rattle.std.specs.Prelude.{ℕ, ◌+◌, ◌-◌, ◌*◌, cond, ◌&&◌, List, [], ◌∷◌, length, Some, None, Option, Result, nat_le, nat_lt}
use Rattle.std.specs.Option.{ok_or}
use Rattle.std.specs.Str.{all_ascii_digits}
use Rattle.words.specs.Reasons.{unfit_of}
use Rattle.words.specs.declared.unreadable.Unreadable.{Unreadable}

-- the value of decimal digits, read on after n
abbrev pub value_after : ℕ → List ℕ → ℕ
value_after n [] = n
value_after n (c ∷ cs) = value_after (10 * n + (c - 48)) cs

-- the value of one or more digits, if it is at most `most`
abbrev pub read_number : List ℕ → ℕ → Option ℕ
read_number bs most = cond (nat_lt 0 (length bs) && (all_ascii_digits bs && nat_le (value_after 0 bs) most)) (Some (value_after 0 bs)) None

-- the number that a word writes, or why it writes none
abbrev pub number_of : ℕ → List ℕ → Result ℕ Unreadable
number_of most word = ok_or (read_number word most) (unfit_of word)
