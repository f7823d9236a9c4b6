-- The lines of a script and the words of a line. Assumes nothing.
use Rattle.std.specs.Prelude.{ℕ, Bool, true, cond, not, ◌||◌, List, [], ◌∷◌, length, codes, ◌==◌, slice_index_or, filter}
use Rattle.std.specs.List.{slice_split, onto_first}
use Rattle.std.specs.Str.{bytes_eq}
use Rattle.words.specs.Cuts.{before}

-- the parts of a text, each up to the next `mark` or to the text's end
abbrev pub parts : ℕ → List ℕ → List (List ℕ)
parts mark [] = []
parts mark (b ∷ bs) = cond (b == mark) ([] ∷ parts mark bs) (onto_first b (parts mark bs))

-- the parts that are not empty
abbrev pub nonempty : List (List ℕ) → List (List ℕ)
nonempty parts = filter (λ part. not (length part == 0)) parts

-- what stands between spaces, byte 32
abbrev pub spaced : List ℕ → List (List ℕ)
spaced text = nonempty (slice_split (λ b. b == 32) text)

-- the words of a line, up to its comment, which begins with #, byte 35
abbrev pub words_of : List ℕ → List (List ℕ)
words_of line = spaced (before 35 line)

-- what follows the spaces that a text begins with
abbrev pub unspaced : List ℕ → List ℕ
unspaced [] = []
unspaced (b ∷ bs) = cond (b == 32) (unspaced bs) (b ∷ bs)

-- whether a word ends before this text: at its end, at a comment or at a space
abbrev pub ends_word_of : List ℕ → Bool
ends_word_of [] = true
ends_word_of (b ∷ bs) = b == 35 || b == 32

-- whether the first of the words is `book`
abbrev pub book_first_of : List (List ℕ) → Bool
book_first_of words = bytes_eq (slice_index_or words 0 []) (codes "book")

-- whether the first word of a line is `book`
abbrev pub opens_book_of : List ℕ → Bool
opens_book_of line = book_first_of (words_of line)
