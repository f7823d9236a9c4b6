-- What a line says by its words. Assumes nothing.
use Rattle.std.proofs.Common.{◌≡◌, ℕ, suc, ◌<◌, true, false, eqb, List, [], ◌∷◌, map, length, Some, None, Option, Ok, Err, Result, IsAscii, MatchResult, sym, refl, ap, ◌∙◌, arith, Bor}
use Rattle.std.specs.Result.{IsErrAnd}
use Rattle.std.specs.Str.{IsUtf8}
use Rattle.std.proofs.lemmas.List.{nil_from_length, length-map}
use Rattle.std.proofs.lemmas.Str.{IsUtf8-from_ascii}
use Rattle.std.proofs.lemmas.Bool.Decides.{nat_tests}
use Rattle.words.specs.Words.{◌>>=◌, bytes}
use Rattle.words.specs.declared.unreadable.Unreadable.{Unreadable}
use Rattle.words.specs.declared.unreadable.Unreadable.TheVariants.{NotAscii}
use Rattle.script.specs.declared.command.Command.{Command}
use Rattle.script.specs.declared.error.ReadError.{ReadError}
use Rattle.script.specs.declared.error.ReadError.TheVariants.{Text}
use Rattle.script.specs.Commands.{command_of}
use Rattle.script.specs.Lines.{words_of}
use Rattle.script.specs.Readings.{Gives, is_plain, worded, says_of}

-- a line of ASCII is plain text
pub plain : (line : List ℕ) → IsAscii line → is_plain line ≡ true
plain [] h = refl
plain (b ∷ bs) h = grind (arith, nat_tests, h 0, plain bs (λ i. h (suc i)))

pub text_read : {E : Type 0} (line : List ℕ) (r : Result (Bor (List ℕ)) E) (s : Result (Bor (List ℕ)) Unreadable) (Valid : Bor (List ℕ) → Type 0) (Fault Made : E → Type 0) → IsAscii line → MatchResult r (λ x. s ≡ Ok x) Made → MatchResult r (λ x. (x.now ≡ line) × Valid x) (λ e. (IsUtf8 line → ⊥) × Fault e) → MatchResult s (λ text. (is_plain line ≡ true) × (text.now ≡ line)) (λ why. (is_plain line ≡ false) × (why ≡ NotAscii))
text_read line (Ok x) s Valid Fault Made ascii e h = rw e (plain line ascii, h.0)
text_read line (Err e) s Valid Fault Made ascii m h = absurd (h.0 (IsUtf8-from_ascii line ascii))

pub gives_why : {read : Result (Option Command) Unreadable} (r : Result (Option Command) (ReadError Unreadable)) (why : Unreadable) → IsErrAnd r (λ e. e ≡ Text why) → read ≡ Err why → Gives (λ said. said) (λ why. why) r read
gives_why (Ok x) why h e = absurd h
gives_why (Err x) why h e = rw h e

pub not_plain : (line : List ℕ) → is_plain line ≡ false → says_of line ≡ Err NotAscii
not_plain line e = rw e refl

pub some_left : (n : ℕ) → false ≡ eqb n 0 → 0 < n
some_left n e = grind (arith, nat_tests)

said_words : (words : List (List ℕ)) → 0 < length words → worded words ≡ (command_of words >>= λ c. Ok (Some c))
said_words [] h = absurd (omega arith)
said_words (word ∷ words) h = refl

-- a line of plain text, whose words are found
module _ (line text : List ℕ) (found : List (Bor (List ℕ))) (ascii : is_plain line ≡ true) (same : text ≡ line) (words : map bytes found ≡ words_of text) where
  by_words : says_of line ≡ worded (map bytes found)
  by_words = rw ascii (ap worded (sym (words ∙ ap words_of same)))

  pub says_nothing : length found ≡ 0 → says_of line ≡ Ok None
  says_nothing none = by_words ∙ ap (λ l. worded (map bytes l)) (nil_from_length found none)

  pub says_what : (slice : List (Bor (List ℕ))) (read : Result Command Unreadable) → 0 < length found → slice ≡ found → read ≡ command_of (map bytes slice) → says_of line ≡ (read >>= λ c. Ok (Some c))
  says_what slice read some e h = by_words ∙ said_words (map bytes found) (omega (arith, length-map found bytes)) ∙ ap (λ r. r >>= λ c. Ok (Some c)) (sym (h ∙ ap (λ l. command_of (map bytes l)) e))

  pub says_why : (slice : List (Bor (List ℕ))) (why : Unreadable) → 0 < length found → slice ≡ found → Err why ≡ command_of (map bytes slice) → says_of line ≡ Err why
  says_why slice why some e h = says_what slice (Err why) some e h
