-- Texts that are printed one after another. Assumes nothing.
use Rattle.std.proofs.Common.{◌≡◌, ℕ, ◌+◌, List, [], ◌++◌, Some, None, Option, ap, ◌∙◌, refl, append_assoc, append-nil, add-one, sym}
use Rattle.std.specs.Io.KnownBytes.{Appends}
use Rattle.rogbeku.specs.Statement.{lines_to}

-- one text and then another
pub appends_more : (a b c : Option (List ℕ)) (x y : List ℕ) → Appends a b x → Appends b c y → Appends a c (x ++ y)
appends_more None b c x y p q = tt
appends_more (Some xs) None c x y p q = absurd p
appends_more (Some xs) (Some ys) None x y p q = absurd q
appends_more (Some xs) (Some ys) (Some zs) x y p q = q ∙ ap (λ l. l ++ y) p ∙ append_assoc xs x y

-- nothing
pub appends_none : (a : Option (List ℕ)) → Appends a a []
appends_none None = tt
appends_none (Some xs) = sym (append-nil xs)

pub lines_to_none : (f : ℕ → List ℕ) → lines_to 0 f ≡ []
unfolding lines_to
lines_to_none f = refl

-- the text for one number more
pub lines_to_more : (n : ℕ) (f : ℕ → List ℕ) → lines_to (n + 1) f ≡ lines_to n f ++ f n
unfolding lines_to
lines_to_more n f = rw (add-one n) refl
