-- Runs: the book that a list of calls reaches, their answers, and the journal of those that were accepted. Assumes nothing.
use Rattle.std.specs.Prelude.{ℕ, List, [], ◌∷◌, Ok, Err, fold, Result}
use Rattle.refusals.specs.declared.Refusal.{Refusal}
use Rattle.margin.specs.Rules.{Rule}
use Rattle.ledger.specs.Ledger.{Ledger, made}
use Rattle.ledger.specs.Calls.{Outcome, refused, done, answer, after}
use Rattle.ledger.specs.declared.records.Reply.{Reply}
use Rattle.book.specs.Acts.{Act, stepped}

-- the book that a list of calls reaches
abbrev pub reached : Rule → Ledger → List Act → Ledger
reached rule s acts = fold (λ t x. after t (stepped rule t x)) s acts

-- the answers that they get, in their order
abbrev pub answers : Rule → Ledger → List Act → List (Result Reply Refusal)
answers rule s [] = []
answers rule s (x ∷ acts) = answer (stepped rule s x) ∷ answers rule (after s (stepped rule s x)) acts

-- an accepted call is noted, a refused one is not
abbrev pub noted : Act → List Act → Outcome → List Act
noted x j (refused r) = j
noted x j (done reply t) = x ∷ j

-- the accepted calls among these, before those noted already
abbrev pub journal_from : Rule → Ledger → List Act → List Act → List Act
journal_from rule s j [] = j
journal_from rule s j (x ∷ acts) = journal_from rule (after s (stepped rule s x)) (noted x j (stepped rule s x)) acts

-- the accepted calls since the making of a book with this number, the newest first
abbrev pub journal : Rule → ℕ → List Act → List Act
journal rule n acts = journal_from rule (made n) [] acts

-- the calls that a run carried out: all of them, or none for want of memory
abbrev pub carried_out : {X E : Type 0} → Result X E → List Act → List Act
carried_out (Ok x) acts = acts
carried_out (Err e) acts = []
