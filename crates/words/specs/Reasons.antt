-- The reasons for which a line cannot be read, in plain words. Assumes nothing.
use Rattle.std.specs.Prelude.{ℕ, cond, List, [], ◌∷◌, length, codes, ◌==◌}
use Rattle.words.specs.declared.unreadable.Unreadable.{Unreadable}
use Rattle.words.specs.declared.unreadable.Unreadable.TheVariants.{UnknownWord, MissingWord, ExtraWord, NotNumber, NotSlip, NoSlipHere, NoBook, LateBook, SecondBook, NotAscii}

-- the words of each reason
abbrev pub reason_of : Unreadable → List ℕ
reason_of UnknownWord = codes "unknown word"
reason_of MissingWord = codes "a word is missing"
reason_of ExtraWord = codes "a word too many"
reason_of NotNumber = codes "not a number that fits"
reason_of NotSlip = codes "not a slip"
reason_of NoSlipHere = codes "no slip here"
reason_of NoBook = codes "no book is made"
reason_of LateBook = codes "the book is made too late"
reason_of SecondBook = codes "a second book"
reason_of NotAscii = codes "not plain text"

-- why a word is no number; a missing one is empty
abbrev pub unfit_of : List ℕ → Unreadable
unfit_of word = cond (length word == 0) MissingWord NotNumber

-- why a word is no keyword; one that begins with @ is meant for a slip
abbrev pub unknown_of : List ℕ → Unreadable
unknown_of [] = MissingWord
unknown_of (b ∷ bs) = cond (b == 64) NotSlip UnknownWord
