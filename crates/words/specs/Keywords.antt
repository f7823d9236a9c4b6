-- The words that a script's commands are spelt with. Assumes nothing.
use Rattle.std.specs.Prelude.{ℕ, cond, List, [], ◌∷◌, Some, None, codes, Option, Result}
use Rattle.std.specs.Option.{ok_or}
use Rattle.std.specs.Str.{bytes_eq}
use Rattle.margin.specs.declared.rule.Right.{Right}
use Rattle.margin.specs.declared.rule.Right.TheVariants as right
use Rattle.kinds.specs.declared.terms.Style.{Style}
use Rattle.kinds.specs.declared.terms.Style.TheVariants.{American, European}
use Rattle.words.specs.Reasons.{unknown_of}
use Rattle.words.specs.declared.unreadable.Unreadable.{Unreadable}
use Rattle.words.specs.declared.keyword.CallWord.TheVariants as call
use Rattle.words.specs.declared.keyword.QuestionWord.TheVariants as question
use Rattle.words.specs.declared.keyword.Opening.{Opening}
use Rattle.words.specs.declared.keyword.Opening.TheVariants.{Book, Call, Question}
use Rattle.words.specs.declared.keyword.RuleWord.{RuleWord}
use Rattle.words.specs.declared.keyword.RuleWord.TheVariants.{Standard, Flat, AddOn}

-- what a word means by a table of words
abbrev pub named : {A : Type 0} → List (List ℕ × A) → List ℕ → Option A
named [] word = None
named (row ∷ rows) word = cond (bytes_eq word row.0) (Some row.1) (named rows word)

-- the same, or why it means nothing
abbrev pub keyword : {A : Type 0} → List (List ℕ × A) → List ℕ → Result A Unreadable
keyword rows word = ok_or (named rows word) (unknown_of word)

-- the words that a command opens with
abbrev pub openings : List (List ℕ × Opening)
openings =
    (codes "book", Book)
    ∷ (codes "deposit", Call call.Deposit)
    ∷ (codes "withdraw", Call call.Withdraw)
    ∷ (codes "future", Call call.Future)
    ∷ (codes "option", Call call.Option)
    ∷ (codes "cash", Question question.Cash)
    ∷ (codes "margin", Question question.Margin)
    ∷ (codes "frozen", Question question.Frozen)
    ∷ (codes "available", Question question.Available)
    ∷ (codes "holding", Question question.Holding)
    ∷ (codes "contract", Question question.Contract)
    ∷ (codes "drawlots", Question question.DrawLots)
    ∷ (codes "drawcash", Question question.DrawCash)
    ∷ (codes "day", Question question.Day)
    ∷ (codes "statement", Question question.Statement)
    ∷ []

-- what a command opens with
abbrev pub opening_of : List ℕ → Result Opening Unreadable
opening_of word = keyword openings word

-- the words for the rights of an option
abbrev pub rights : List (List ℕ × Right)
rights = (codes "call", right.Call) ∷ (codes "put", right.Put) ∷ []

-- an option's right
abbrev pub right_of : List ℕ → Result Right Unreadable
right_of word = keyword rights word

-- the words for the styles of an option
abbrev pub styles : List (List ℕ × Style)
styles = (codes "american", American) ∷ (codes "european", European) ∷ []

-- an option's style
abbrev pub style_of : List ℕ → Result Style Unreadable
style_of word = keyword styles word

-- the words that name a margin rule
abbrev pub rule_words : List (List ℕ × RuleWord)
rule_words = (codes "standard", Standard) ∷ (codes "flat", Flat) ∷ (codes "addon", AddOn) ∷ []

-- the word of a margin rule
abbrev pub rule_word_of : List ℕ → Result RuleWord Unreadable
rule_word_of word = keyword rule_words word
