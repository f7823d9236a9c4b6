-- A text cut at its first mark, and the slip that it writes. Assumes nothing.
use Rattle.std.proofs.Common.{◌≡◌, ℕ, zero, suc, ◌+◌, ◌<◌, ◌≤◌, Bool, true, false, cond, not, eqb, List, [], ◌∷◌, ◌++◌, length, get_or, take, drop, Some, None, Option, refl, ap, sym, ◌∙◌, arith, Bor, MatchOption}
use Rattle.std.specs.List.{position_or_len}
use Rattle.std.proofs.lemmas.Bool.{ne_eqb, eq-eqb}
use Rattle.std.proofs.lemmas.List.{drop_all}
use Rattle.words.specs.Cuts.{before, after}
use Rattle.words.specs.Numbers.{read_number}
use Rattle.words.specs.Slips.{◌>>=◌, shown_by, slip_of}
use Rattle.words.specs.declared.slip.Shown.{Shown}

-- no byte of a text is the mark
abbrev pub Unmarked : ℕ → List ℕ → Type 0
Unmarked mark bs = (i : ℕ) → i < length bs → get_or bs i 0 ≡ mark → ⊥

-- how `before` and `after` go on from one byte to the next
take_on : (t : Bool) (b n : ℕ) (bs : List ℕ) → take (cond (not t) (1 + n) 0) (b ∷ bs) ≡ cond t [] (b ∷ take n bs)
take_on true b n bs = refl
take_on false b n bs =
    let next : 1 + n ≡ suc n = omega arith in
    ap (λ m. take m (b ∷ bs)) next

drop_on : (t : Bool) (b n : ℕ) (bs : List ℕ) → drop (cond (not t) (1 + n) 0 + 1) (b ∷ bs) ≡ cond t bs (drop (n + 1) bs)
drop_on true b n bs = refl
drop_on false b n bs =
    let next : 1 + n + 1 ≡ suc (n + 1) = omega arith in
    ap (λ m. drop m (b ∷ bs)) next

pub before_on : (mark b : ℕ) (bs : List ℕ) → before mark (b ∷ bs) ≡ cond (eqb b mark) [] (b ∷ before mark bs)
before_on mark b bs = take_on (eqb b mark) b (position_or_len (λ c. eqb c mark) bs) bs

pub after_on : (mark b : ℕ) (bs : List ℕ) → after mark (b ∷ bs) ≡ cond (eqb b mark) bs (after mark bs)
after_on mark b bs = drop_on (eqb b mark) b (position_or_len (λ c. eqb c mark) bs) bs

module _ {mark : ℕ} where
  rest_unmarked : (b : ℕ) (bs : List ℕ) → Unmarked mark (b ∷ bs) → Unmarked mark bs
  rest_unmarked b bs h i lt e = h (suc i) (omega arith) e

  head_unmarked : (b : ℕ) (bs : List ℕ) → Unmarked mark (b ∷ bs) → eqb b mark ≡ false
  head_unmarked b bs h = ne_eqb b mark (λ e. h 0 (omega arith) e)

  pub before_mark : (xs ys : List ℕ) → Unmarked mark xs → before mark (xs ++ (mark ∷ ys)) ≡ xs
  before_mark [] ys h = before_on mark mark ys ∙ rw (eq-eqb mark mark refl) refl
  before_mark (x ∷ xs) ys h = before_on mark x (xs ++ (mark ∷ ys)) ∙ rw (head_unmarked x xs h) (ap (λ l. x ∷ l) (before_mark xs ys (rest_unmarked x xs h)))

  pub after_mark : (xs ys : List ℕ) → Unmarked mark xs → after mark (xs ++ (mark ∷ ys)) ≡ ys
  after_mark [] ys h = after_on mark mark ys ∙ rw (eq-eqb mark mark refl) refl
  after_mark (x ∷ xs) ys h = after_on mark x (xs ++ (mark ∷ ys)) ∙ rw (head_unmarked x xs h) (after_mark xs ys (rest_unmarked x xs h))

  pub before_all : (bs : List ℕ) → Unmarked mark bs → before mark bs ≡ bs
  before_all [] h = refl
  before_all (b ∷ bs) h = before_on mark b bs ∙ rw (head_unmarked b bs h) (ap (λ l. b ∷ l) (before_all bs (rest_unmarked b bs h)))

  pub after_none : (bs : List ℕ) → Unmarked mark bs → after mark bs ≡ []
  after_none [] h = refl
  after_none (b ∷ bs) h = after_on mark b bs ∙ rw (head_unmarked b bs h) (after_none bs (rest_unmarked b bs h))

  -- the first mark stands at i
  pub at_mark : (bs : List ℕ) (i : ℕ) → i < length bs → get_or bs i 0 ≡ mark → ((k : ℕ) → k < i → get_or bs k 0 ≡ mark → ⊥) → (take i bs ≡ before mark bs) × (drop (suc i) bs ≡ after mark bs)
  at_mark [] i lt e h = absurd (omega arith)
  at_mark (b ∷ bs) zero lt e h = (sym (before_on mark b bs ∙ rw (eq-eqb b mark e) refl), sym (after_on mark b bs ∙ rw (eq-eqb b mark e) refl))
  at_mark (b ∷ bs) (suc i) lt e h =
      let other = ne_eqb b mark (λ f. h 0 (omega arith) f) in
      let rest = at_mark bs i (omega arith) e (λ k l f. h (suc k) (omega arith) f) in
      (sym (before_on mark b bs ∙ rw other (ap (λ l. b ∷ l) (sym rest.0))), sym (after_on mark b bs ∙ rw other (sym rest.1)))

within : (b : Bool) (x y : List ℕ) (n : ℕ) → length x ≤ n → length y ≤ n → length (cond b x y) ≤ n
within true x y n h k = h
within false x y n h k = k

after_within : (mark : ℕ) (bs : List ℕ) → length (after mark bs) ≤ length bs
after_within mark [] = omega arith
after_within mark (b ∷ bs) = omega (arith, ap length (after_on mark b bs), within (eqb b mark) bs (after mark bs) (length (b ∷ bs)) (omega arith) (omega (arith, after_within mark bs)))

pub after_shorter : (mark : ℕ) (bs : List ℕ) → 0 < length bs → length (after mark bs) < length bs
after_shorter mark [] h = absurd (omega arith)
after_shorter mark (b ∷ bs) h = omega (arith, ap length (after_on mark b bs), within (eqb b mark) bs (after mark bs) (length bs) (omega arith) (after_within mark bs))

no_day : (o : Option ℕ) → ◌>>=◌ {A = ℕ} {B = Shown} o (λ b. None) ≡ None
no_day None = refl
no_day (Some b) = refl

pub no_sign : (word : List ℕ) → ((rest : List ℕ) → word ≡ 64 ∷ rest → ⊥) → slip_of word ≡ None
no_sign [] h = refl
no_sign (b ∷ bs) h = rw (ne_eqb b 64 (λ e. h bs (ap (λ n. n ∷ bs) e)))

-- what `split_once` gives after the sign
pub halves : (word rest : List ℕ) (r : Option (Bor (List ℕ) × Bor (List ℕ))) → word ≡ 64 ∷ rest → MatchOption r (position_or_len (λ b. eqb b 46) rest ≡ length rest) (λ p. (position_or_len (λ b. eqb b 46) rest < length rest) × (p.0.now ≡ before 46 rest) × (p.1.now ≡ after 46 rest)) → MatchOption r (slip_of word ≡ None) (λ p. slip_of word ≡ shown_by p.0.now p.1.now)
halves word rest None e h = rw (e, drop_all (position_or_len (λ b. eqb b 46) rest + 1) rest (omega (arith, h))) (no_day (read_number (before 46 rest) 4294967295))
halves word rest (Some p) e h = rw (e, h.1, h.2)
