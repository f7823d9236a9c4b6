-- The first word of a line, read off the line's front. Assumes nothing.
use Rattle.std.proofs.Common.{◌≡◌, ℕ, suc, ◌+◌, ◌-◌, Bool, true, false, cond, not, ◌&&◌, ◌||◌, eqb, List, [], ◌∷◌, ◌++◌, length, take, drop, get_or, codes, Some, None, Option, MatchOption, Bor, sym, refl, ap, ◌∙◌, arith}
use Rattle.std.specs.List.{filter, slice_split, onto_first, position_or_len}
use Rattle.std.specs.Str.{bytes_eq}
use Rattle.std.proofs.lemmas.Bool.{ne_eqb, eqb-true}
use Rattle.std.proofs.lemmas.List.{take_all, length-drop}
use Rattle.words.specs.Cuts.{before}
use Rattle.words.proofs.Cuts.{before_on}
use Rattle.script.specs.Lines.{spaced, unspaced, words_of, ends_word_of, opens_book_of}

-- ---- what follows the leading spaces

dropped : (t : Bool) (b n : ℕ) (bs : List ℕ) → drop n bs ≡ unspaced bs → drop (cond (not (not t)) (1 + n) 0) (b ∷ bs) ≡ cond t (unspaced bs) (b ∷ bs)
dropped true b n bs e =
    let next : 1 + n ≡ suc n = omega arith in
    ap (λ m. drop m (b ∷ bs)) next ∙ e
dropped false b n bs e = refl

drop_spaces : (line : List ℕ) → drop (position_or_len (λ b. not (eqb b 32)) line) line ≡ unspaced line
drop_spaces [] = refl
drop_spaces (b ∷ bs) = dropped (eqb b 32) b (position_or_len (λ c. not (eqb c 32)) bs) bs (drop_spaces bs)

-- the part of a line from the first byte on that is no space
pub spaces_dropped : (line : List ℕ) (n : ℕ) → n ≡ position_or_len (λ b. not (eqb b 32)) line → take (length line - n) (drop n line) ≡ unspaced line
spaces_dropped line n e = take_all (length line - n) (drop n line) (omega (arith, length-drop n line)) ∙ ap (λ m. drop m line) e ∙ drop_spaces line

passed_space : (t : Bool) (b : ℕ) (bs : List ℕ) → eqb b 32 ≡ t → words_of (unspaced bs) ≡ words_of bs → words_of (cond t (unspaced bs) (b ∷ bs)) ≡ words_of (b ∷ bs)
passed_space true b bs e same = same ∙ sym (ap (λ c. words_of (c ∷ bs)) (eqb-true b 32 e) ∙ ap spaced (before_on 35 32 bs))
passed_space false b bs e same = refl

unspaced_words : (line : List ℕ) → words_of (unspaced line) ≡ words_of line
unspaced_words [] = refl
unspaced_words (b ∷ bs) = passed_space (eqb b 32) b bs refl (unspaced_words bs)

unled : (t : Bool) (b : ℕ) (bs : List ℕ) → eqb b 32 ≡ t → ((more : List ℕ) → unspaced bs ≡ 32 ∷ more → ⊥) → (more : List ℕ) → cond t (unspaced bs) (b ∷ bs) ≡ 32 ∷ more → ⊥
unled true b bs e h more same = h more same
unled false b bs e h more same = grind (arith, e, same)

no_space : (line more : List ℕ) → unspaced line ≡ 32 ∷ more → ⊥
no_space [] more e = grind (arith, e)
no_space (b ∷ bs) more e = unled (eqb b 32) b bs refl (no_space bs) more e

-- ---- the first word

-- up to the first space or comment
abbrev pub front : List ℕ → List ℕ
front line = before 32 (before 35 line)

front_at : (t : Bool) (b : ℕ) (bs : List ℕ) → before 32 (cond t [] (b ∷ bs)) ≡ cond t [] (cond (eqb b 32) [] (b ∷ before 32 bs))
front_at true b bs = refl
front_at false b bs = before_on 32 b bs

front_on : (b : ℕ) (bs : List ℕ) → front (b ∷ bs) ≡ cond (eqb b 35) [] (cond (eqb b 32) [] (b ∷ front bs))
front_on b bs = ap (before 32) (before_on 35 b bs) ∙ front_at (eqb b 35) b (before 35 bs)

first_onto : (b : ℕ) (parts : List (List ℕ)) → get_or (onto_first b parts) 0 [] ≡ b ∷ get_or parts 0 []
first_onto b [] = refl
first_onto b (part ∷ parts) = refl

part_at : (t : Bool) (b : ℕ) (bs : List ℕ) (parts : List (List ℕ)) → get_or parts 0 [] ≡ bs → get_or (cond t ([] ∷ parts) (onto_first b parts)) 0 [] ≡ cond t [] (b ∷ bs)
part_at true b bs parts e = refl
part_at false b bs parts e = first_onto b parts ∙ ap (λ l. b ∷ l) e

-- the first part of a text that is cut at spaces
first_part : (text : List ℕ) → get_or (slice_split (λ b. eqb b 32) text) 0 [] ≡ before 32 text
first_part [] = refl
first_part (b ∷ bs) = part_at (eqb b 32) b (before 32 bs) _ (first_part bs) ∙ sym (before_on 32 b bs)

first_kept : (b : ℕ) (parts : List (List ℕ)) → get_or (filter (λ part. not (eqb (length part) 0)) (onto_first b parts)) 0 [] ≡ b ∷ get_or parts 0 []
first_kept b [] = refl
first_kept b (part ∷ parts) = rw (ne_eqb (length (b ∷ part)) 0 (λ e. omega (arith, e))) refl

leads : (t : Bool) (b : ℕ) (bs : List ℕ) → eqb b 32 ≡ false → get_or (spaced (cond t [] (b ∷ bs))) 0 [] ≡ before 32 (cond t [] (b ∷ bs))
leads true b bs e = refl
leads false b bs e =
    let parts = slice_split (λ c. eqb c 32) bs in
    ap (λ t. get_or (filter (λ part. not (eqb (length part) 0)) (cond t ([] ∷ parts) (onto_first b parts))) 0 []) e ∙ first_kept b parts ∙ ap (λ l. b ∷ l) (first_part bs) ∙ sym (before_on 32 b bs ∙ ap (λ t. cond t [] (b ∷ before 32 bs)) e)

pub leading : (line : List ℕ) → ((rest : List ℕ) → line ≡ 32 ∷ rest → ⊥) → get_or (words_of line) 0 [] ≡ front line
leading [] h = refl
leading (b ∷ bs) h = rw (before_on 35 b bs) (leads (eqb b 35) b (before 35 bs) (ne_eqb b 32 (λ e. h bs (ap (λ n. n ∷ bs) e))))

neither : (v w : Bool) → (v ≡ true → w ≡ false) → (v && w) ≡ false
neither true w k = k refl
neither false w k = refl

past : (t u : Bool) (b c : ℕ) (bs cs : List ℕ) → (eqb b c && bytes_eq bs cs) ≡ false → bytes_eq (cond t [] (cond u [] (b ∷ bs))) (c ∷ cs) ≡ false
past true u b c bs cs k = refl
past false true b c bs cs k = refl
past false false b c bs cs k = k

-- a line that does not begin with the word
pub otherwise : (word line : List ℕ) → ((rest : List ℕ) → line ≡ word ++ rest → ⊥) → bytes_eq (front line) word ≡ false
otherwise [] line h = absurd (h line refl)
otherwise (c ∷ cs) [] h = refl
otherwise (c ∷ cs) (b ∷ bs) h =
    let more : (eqb b c && bytes_eq (front bs) cs) ≡ false = neither (eqb b c) (bytes_eq (front bs) cs) (λ same. otherwise cs bs (λ rest e. h rest (ap (λ l. b ∷ l) e ∙ ap (λ n. n ∷ (cs ++ rest)) (eqb-true b c same)))) in
    ap (λ l. bytes_eq l (c ∷ cs)) (front_on b bs) ∙ past (eqb b 35) (eqb b 32) b c (front bs) cs more

at_end : (t u : Bool) (b : ℕ) (bs : List ℕ) → bytes_eq (cond t [] (cond u [] (b ∷ bs))) [] ≡ (t || u)
at_end true u b bs = refl
at_end false true b bs = refl
at_end false false b bs = refl

ended : (rest : List ℕ) → bytes_eq (front rest) [] ≡ ends_word_of rest
ended [] = refl
ended (b ∷ bs) = ap (λ l. bytes_eq l []) (front_on b bs) ∙ at_end (eqb b 35) (eqb b 32) b (front bs)

book_ended : (tail : List ℕ) → bytes_eq (front (codes "book" ++ tail)) (codes "book") ≡ ends_word_of tail
book_ended tail = rw (front_on 98 (111 ∷ 111 ∷ 107 ∷ tail), front_on 111 (111 ∷ 107 ∷ tail), front_on 111 (107 ∷ tail), front_on 107 tail) (ended tail)

module _ (line rest : List ℕ) (words : words_of rest ≡ words_of line) (begins : (more : List ℕ) → rest ≡ 32 ∷ more → ⊥) where
  first_is : opens_book_of line ≡ bytes_eq (front rest) (codes "book")
  first_is = ap (λ ws. bytes_eq (get_or ws 0 []) (codes "book")) (sym words) ∙ ap (λ w. bytes_eq w (codes "book")) (leading rest begins)

  pub opens : (tail : List ℕ) → rest ≡ codes "book" ++ tail → ends_word_of tail ≡ opens_book_of line
  opens tail e = sym (first_is ∙ ap (λ l. bytes_eq (front l) (codes "book")) e ∙ book_ended tail)

  pub opens_not : ((tail : List ℕ) → rest ≡ codes "book" ++ tail → ⊥) → false ≡ opens_book_of line
  opens_not h = sym (first_is ∙ otherwise (codes "book") rest h)

-- what the test of what follows `book` answers
pub answered : (line rest : List ℕ) → rest ≡ unspaced line → (r : Option (Bor (List ℕ))) (answer : Bool) (Told : Bor (List ℕ) → Type 0) → MatchOption r ((tail : List ℕ) → rest ≡ codes "book" ++ tail → ⊥) (λ x. rest ≡ codes "book" ++ x.now) → MatchOption r (answer ≡ false) Told → ((x : Bor (List ℕ)) → Told x → answer ≡ ends_word_of x.now) → answer ≡ opens_book_of line
answered line rest is None answer Told found told ends =
    told ∙ opens_not line rest (ap words_of is ∙ unspaced_words line) (λ more e. no_space line more (sym is ∙ e)) found
answered line rest is (Some x) answer Told found told ends =
    ends x told ∙ opens line rest (ap words_of is ∙ unspaced_words line) (λ more e. no_space line more (sym is ∙ e)) x.now found
