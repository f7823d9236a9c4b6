-- A command with no first word, or with a first word that is no slip. Assumes nothing.
use Rattle.std.proofs.Common.{◌≡◌, ℕ, List, [], ◌∷◌, map, length, None, Err, refl, ap, arith, Bor}
use Rattle.script.specs.Commands.{after_slip, plain_of, command_of}
use Rattle.words.specs.declared.unreadable.Unreadable.TheVariants.{MissingWord}
use Rattle.words.specs.Slips.{slip_of}
use Rattle.words.specs.Words.{bytes}

pub no_word : (words : List (Bor (List ℕ))) → length words ≡ 0 → Err MissingWord ≡ command_of (map bytes words)
no_word [] e = refl
no_word (word ∷ words) e = absurd (omega arith)

pub no_slip : (words : List (Bor (List ℕ))) (first : Bor (List ℕ)) (rest : List (Bor (List ℕ))) → words ≡ first ∷ rest → None ≡ slip_of (bytes first) → plain_of (map bytes words) ≡ command_of (map bytes words)
no_slip words first rest e none = rw e (ap (after_slip (bytes first) (map bytes rest)) none)
