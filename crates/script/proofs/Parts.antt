-- A text cut into its lines. Assumes nothing.
use Rattle.std.proofs.Common.{◌≡◌, ℕ, ◌+◌, ◌<◌, ◌≤◌, Bool, true, false, cond, not, eqb, ltb, List, [], ◌∷◌, ◌++◌, map, length, get_or, Some, None, Option, ◌⊎◌, inl, inr, refl, ap, sym, ◌∙◌, arith, Bor}
use Rattle.std.specs.List.{slice_split, onto_first, position_or_len, enumerate_from}
use Rattle.std.specs.Option.{unwrap_or}
use Rattle.std.proofs.lemmas.List.Sums.{prefix_len-le-length}
use Rattle.std.proofs.lemmas.Bool.Decides.{nat_tests}
use Rattle.script.specs.Lines.{parts}
use Rattle.script.specs.Readings.{Read, taken, read_on, nothing_yet, told, script_of}
use Rattle.std.proofs.lemmas.List.{length-map, map-append}
use Rattle.std.proofs.lemmas.List.FromFn.{get_or-enumerate_from, length-enumerate_from}

within : (i n : ℕ) → i ≤ n → unwrap_or (cond (ltb i n) (Some i) None) n ≡ i
within i n h = grind (arith, nat_tests)

-- where `position` finds the first place, or else the length
pub place : (p : ℕ → Bool) (line : List ℕ) (r : Option ℕ) → r ≡ cond (ltb (position_or_len p line) (length line)) (Some (position_or_len p line)) None → unwrap_or r (length line) ≡ position_or_len p line
place p line r e = rw e (within (position_or_len p line) (length line) (prefix_len-le-length (λ x. not (p x)) line))

-- the parts of `split`: one more, which is empty, where the text ends in a mark or is empty
abbrev pub Ends : List (List ℕ) → List (List ℕ) → Type 0
Ends pieces parts = (pieces ≡ parts) ⊎ (pieces ≡ parts ++ [] ∷ [])

longer : (t : Bool) (b : ℕ) (pieces parts : List (List ℕ)) → Ends pieces parts → Ends (cond t ([] ∷ pieces) (onto_first b pieces)) (cond t ([] ∷ parts) (onto_first b parts))
longer true b pieces parts (inl e) = inl (ap (λ l. [] ∷ l) e)
longer true b pieces parts (inr e) = inr (ap (λ l. [] ∷ l) e)
longer false b pieces parts (inl e) = inl (ap (onto_first b) e)
longer false b pieces [] (inr e) = inl (ap (onto_first b) e)
longer false b pieces (part ∷ parts) (inr e) = inr (ap (onto_first b) e)

pub ends : (mark : ℕ) (text : List ℕ) → Ends (slice_split (λ b. eqb b mark) text) (parts mark text)
ends mark [] = inr refl
ends mark (b ∷ bs) = longer (eqb b mark) b _ _ (ends mark bs)

-- one line more
pub read_more : (number : ℕ) (read : Read) (lines : List (List ℕ)) (line : List ℕ) (k : ℕ) → k ≡ number + length lines + 1 → read_on number read (lines ++ line ∷ []) ≡ taken k line (read_on number read lines)
read_more number read [] line k e = ap (λ n. taken n line read) (omega (arith, e))
read_more number read (first ∷ lines) line k e = read_more (number + 1) (taken (number + 1) first read) lines line k (omega (arith, e))

-- an empty last line says nothing
same : (number : ℕ) (read : Read) (pieces lines : List (List ℕ)) → Ends pieces lines → read_on number read pieces ≡ read_on number read lines
same number read pieces lines (inl e) = ap (read_on number read) e
same number read pieces lines (inr e) = ap (read_on number read) e ∙ read_more number read lines [] (number + length lines + 1) refl

abbrev pub line_of : ℕ × Bor (List ℕ) → List ℕ
line_of given = given.1.now

seconds : (n : ℕ) (pieces : List (List ℕ)) → map (λ p. p.1) (enumerate_from n pieces) ≡ pieces
seconds n [] = refl
seconds n (piece ∷ pieces) = ap (λ l. piece ∷ l) (seconds (n + 1) pieces)

lines_of : (given : List (ℕ × Bor (List ℕ))) → map line_of given ≡ map {A = ℕ × List ℕ} (λ p. p.1) (map (λ p. (p.0, p.1.now)) given)
lines_of [] = refl
lines_of (one ∷ given) = ap (λ l. one.1.now ∷ l) (lines_of given)

-- the next line that `enumerate` gives
pub next_line : (given : List (ℕ × Bor (List ℕ))) (index : ℕ) (line : Bor (List ℕ)) (read later : Read) → index ≡ length given → read ≡ read_on 0 nothing_yet (map line_of given) → later ≡ taken (index + 1) line.now read → later ≡ read_on 0 nothing_yet (map line_of (given ++ (index, line) ∷ []))
next_line given index line read later e r l =
    l ∙ ap (taken (index + 1) line.now) r ∙ sym (ap (read_on 0 nothing_yet) (map-append line_of given ((index, line) ∷ [])) ∙ read_more 0 nothing_yet (map line_of given) line.now (index + 1) (omega (arith, e, length-map given line_of)))

-- the number of the next line
pub numbered : (pieces : List (List ℕ)) (k index : ℕ) (line : List ℕ) → k < length (enumerate_from 0 pieces) → (index, line) ≡ get_or (enumerate_from 0 pieces) k (index, line) → index ≡ k
numbered pieces k index line inside e = omega (arith, ap (λ p. p.0) (e ∙ get_or-enumerate_from 0 pieces k (index, line) (omega (arith, inside, length-enumerate_from 0 pieces))))

-- once all lines are given
pub all_lines : (text : List ℕ) (given : List (ℕ × Bor (List ℕ))) (read : Read) → read ≡ read_on 0 nothing_yet (map line_of given) → map (λ p. (p.0, p.1.now)) given ≡ enumerate_from 0 (slice_split (λ b. eqb b 10) text) → told read ≡ script_of text
all_lines text given read r e = ap told (r ∙ ap (read_on 0 nothing_yet) (lines_of given ∙ ap (map {A = ℕ × List ℕ} (λ p. p.1)) e ∙ seconds 0 (slice_split (λ b. eqb b 10) text)) ∙ same 0 nothing_yet _ _ (ends 10 text))
