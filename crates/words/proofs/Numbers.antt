-- What `parse` reads is the definition's number. Assumes nothing.
use Rattle.std.proofs.Common.{◌≡◌, ℕ, ◌^◌, ◌<◌, Bool, true, nat_le, List, length, None, Option, Ok, Err, Result, MatchOption, ◌∙◌, arith, rules}
use Rattle.std.specs.Bool.{then_some}
use Rattle.std.specs.Result.{OkIff, result_ok}
use Rattle.std.specs.Str.{all_ascii_digits}
use Rattle.std.proofs.lemmas.Str.Parse.{IsNumeralModel, numerals_by_fold}
use Rattle.std.proofs.lemmas.Bool.Decides.{nat_tests}
use Rattle.words.specs.Numbers.{value_after, read_number}

pub own : IsNumeralModel (λ ds. all_ascii_digits ds ≡ true) (value_after 0)
own = numerals_by_fold _ (search rules) value_after (search rules)

fits : (bs : List ℕ) (most : ℕ) → (all_ascii_digits bs ≡ true) × (0 < length bs) × (value_after 0 bs < 2 ^ 64) → then_some (nat_le (value_after 0 bs) most) (value_after 0 bs) ≡ read_number bs most
fits bs most h = grind (arith, nat_tests)

pub no_numeral : (bs : List ℕ) (most : ℕ) → most < 2 ^ 64 → ((all_ascii_digits bs ≡ true) × (0 < length bs) × (value_after 0 bs < 2 ^ 64) → ⊥) → None ≡ read_number bs most
no_numeral bs most small h = grind (arith, nat_tests)

-- what `parse` reads, and a `filter` keeps where it is at most `most`
pub kept : {E : Type 0} (bs : List ℕ) (most : ℕ) (parsed : Result ℕ E) (r : Option ℕ) (Test : ℕ → Bool → Type 0) → most < 2 ^ 64 → OkIff parsed ((all_ascii_digits bs ≡ true) × (0 < length bs) × (value_after 0 bs < 2 ^ 64)) (value_after 0 bs) → MatchOption (result_ok parsed) (r ≡ None) (λ x. (b : Bool) × Test x b × (r ≡ then_some b x)) → ((x : ℕ) (b : Bool) → Test x b → b ≡ nat_le x most) → r ≡ read_number bs most
kept bs most (Ok x) r Test small read h test = h.2 ∙ rw (test x h.0 h.1, read.1) (fits bs most read.0)
kept bs most (Err e) r Test small read h test = h ∙ no_numeral bs most small read
