-- A text cut into parts, the first one apart. Assumes nothing.
use Rattle.std.proofs.Common.{◌≡◌, ℕ, ◌<◌, Bool, true, false, cond, not, eqb, List, [], ◌∷◌, ◌++◌, length, inl, inr, refl, sym, ap, ◌∙◌, arith}
use Rattle.std.specs.List.{onto_first}
use Rattle.words.specs.Cuts.{before, after}
use Rattle.words.proofs.Cuts.{before_on, after_on}
use Rattle.script.specs.Lines.{parts, nonempty, spaced}
use Rattle.script.proofs.Parts.{Ends, ends}

one_part : (mark b : ℕ) (bs : List ℕ) (t : Bool) → parts mark bs ≡ before mark bs ∷ parts mark (after mark bs) → cond t ([] ∷ parts mark bs) (onto_first b (parts mark bs)) ≡ cond t [] (b ∷ before mark bs) ∷ parts mark (cond t bs (after mark bs))
one_part mark b bs true e = refl
one_part mark b bs false e = ap (onto_first b) e

last_part : (mark b : ℕ) (t : Bool) → cond t ([] ∷ []) (onto_first b []) ≡ cond t [] (b ∷ []) ∷ parts mark (cond t [] [])
last_part mark b true = refl
last_part mark b false = refl

cut_on : (mark b : ℕ) (bs : List ℕ) → cond (eqb b mark) [] (b ∷ before mark bs) ∷ parts mark (cond (eqb b mark) bs (after mark bs)) ≡ before mark (b ∷ bs) ∷ parts mark (after mark (b ∷ bs))
cut_on mark b bs = sym (ap (λ front. front ∷ parts mark (after mark (b ∷ bs))) (before_on mark b bs) ∙ ap (λ rest. cond (eqb b mark) [] (b ∷ before mark bs) ∷ parts mark rest) (after_on mark b bs))

pub first_part : (mark : ℕ) (text : List ℕ) → 0 < length text → parts mark text ≡ before mark text ∷ parts mark (after mark text)
first_part mark [] h = absurd (omega arith)
first_part mark (b ∷ []) h = last_part mark b (eqb b mark) ∙ cut_on mark b []
first_part mark (b ∷ c ∷ cs) h = one_part mark b (c ∷ cs) (eqb b mark) (first_part mark (c ∷ cs) (omega arith)) ∙ cut_on mark b (c ∷ cs)

one_more : (t : Bool) (part : List ℕ) (found more : List (List ℕ)) → found ≡ more → cond t (part ∷ found) found ≡ cond t (part ∷ more) more
one_more true part found more e = ap (λ l. part ∷ l) e
one_more false part found more e = e

-- an empty last part is no word
no_more : (ps : List (List ℕ)) → nonempty (ps ++ [] ∷ []) ≡ nonempty ps
no_more [] = refl
no_more (part ∷ ps) = one_more (not (eqb (length part) 0)) part _ _ (no_more ps)

same_words : (pieces ps : List (List ℕ)) → Ends pieces ps → nonempty pieces ≡ nonempty ps
same_words pieces ps (inl e) = ap nonempty e
same_words pieces ps (inr e) = ap nonempty e ∙ no_more ps

-- a text's words, the first part apart
pub first_word : (text : List ℕ) → spaced text ≡ nonempty (before 32 text ∷ parts 32 (after 32 text))
first_word [] = refl
first_word (b ∷ bs) = same_words _ _ (ends 32 (b ∷ bs)) ∙ ap nonempty (first_part 32 (b ∷ bs) (omega arith))
