-- The law, after every list of calls. Assumes nothing.
use Rattle.std.proofs.Common.{◌≡◌, ℕ, ◌+◌, ◌<◌, List, [], ◌∷◌, ◌++◌, map, length, get_or, take, sym, refl, ap, ◌∙◌}
use mathlib.Core.List.{map-append}
use Rattle.std.proofs.lemmas.List.{take_more}
use Rattle.margin.specs.Rules.{Rule, Lawful}
use Rattle.ledger.specs.Ledger.{Ledger, made}
use Rattle.ledger.specs.Calls.{answer, after}
use Rattle.ledger.proofs.Keeping.{made_sound, made_empty}
use Rattle.book.specs.Acts.{Act, stepped}
use Rattle.runs.specs.Journal.{reached, answers, journal, journal_from, noted}
use Rattle.runs.specs.Law.{Law}
use Rattle.runs.proofs.Steps.{Good, good_law, step}

reached_append : (rule : Rule) (s : Ledger) (xs ys : List Act) → reached rule s (xs ++ ys) ≡ reached rule (reached rule s xs) ys
reached_append rule s [] ys = refl
reached_append rule s (x ∷ xs) ys = reached_append rule (after s (stepped rule s x)) xs ys

answers_push : (rule : Rule) (s : Ledger) (xs : List Act) (x : Act) → answers rule s (xs ++ (x ∷ [])) ≡ answers rule s xs ++ (answer (stepped rule (reached rule s xs) x) ∷ [])
answers_push rule s [] x = refl
answers_push rule s (y ∷ xs) x = ap (λ ys. answer (stepped rule s y) ∷ ys) (answers_push rule (after s (stepped rule s y)) xs x)

-- the acts of one call more
acts_more : {X : Type 0} (f : X → Act) (xs : List X) (i : ℕ) (d : X) → i < length xs → map f (take (i + 1) xs) ≡ map f (take i xs) ++ (f (get_or xs i d) ∷ [])
acts_more f xs i d within = ap (map f) (take_more xs i d within) ∙ map-append f (take i xs) (get_or xs i d ∷ [])

pub reached_more : {X : Type 0} (rule : Rule) (s : Ledger) (f : X → Act) (xs : List X) (i : ℕ) (d : X) → i < length xs → reached rule s (map f (take (i + 1) xs)) ≡ after (reached rule s (map f (take i xs))) (stepped rule (reached rule s (map f (take i xs))) (f (get_or xs i d)))
reached_more rule s f xs i d within = ap (reached rule s) (acts_more f xs i d within) ∙ reached_append rule s (map f (take i xs)) (f (get_or xs i d) ∷ [])

pub answers_more : {X : Type 0} (rule : Rule) (s : Ledger) (f : X → Act) (xs : List X) (i : ℕ) (d : X) → i < length xs → answers rule s (map f (take (i + 1) xs)) ≡ answers rule s (map f (take i xs)) ++ (answer (stepped rule (reached rule s (map f (take i xs))) (f (get_or xs i d))) ∷ [])
answers_more rule s f xs i d within = ap (answers rule s) (acts_more f xs i d within) ∙ answers_push rule s (map f (take i xs)) (f (get_or xs i d))

good_run : (rule : Rule) → Lawful rule → (s : Ledger) (j acts : List Act) → Good s j → Good (reached rule s acts) (journal_from rule s j acts)
good_run rule lawful s j [] g = g
good_run rule lawful s j (x ∷ acts) g = good_run rule lawful (after s (stepped rule s x)) (noted x j (stepped rule s x)) acts (step rule lawful s j x g)

made_good : (n : ℕ) → Good (made n) []
made_good n = record { sound = made_sound n; conserved = made_empty n; futures = λ k. tt; options = λ k. tt; lasting = λ k. refl }

-- of a book reached by some calls and then by more
pub law : (rule : Rule) → Lawful rule → (n : ℕ) (before acts : List Act) (s t : Ledger) → s ≡ reached rule (made n) before → t ≡ reached rule s acts → Law (journal rule n (before ++ acts)) t
law rule lawful n before acts s t from to =
    let whole = good_run rule lawful (made n) [] (before ++ acts) (made_good n) in
    let there : t ≡ reached rule (made n) (before ++ acts) = to ∙ ap (λ z. reached rule z acts) from ∙ sym (reached_append rule (made n) before acts) in
    rw there (good_law (reached rule (made n) (before ++ acts)) (journal rule n (before ++ acts)) whole)
