-- What the words of a line say, or why they say nothing. Assumes nothing.
use Rattle.std.specs.Prelude.{ℕ, List, [], ◌∷◌, Some, None, Option, Ok, Err, Result}
use Rattle.session.specs.declared.orders.Order.{Order}
use Rattle.script.specs.declared.command.Command.{Command}
use Rattle.script.specs.declared.command.Command.TheVariants as say
use Rattle.words.specs.declared.slip.Shown.{Shown}
use Rattle.words.specs.declared.keyword.Opening.{Opening}
use Rattle.words.specs.declared.keyword.Opening.TheVariants.{Book, Call, Question}
use Rattle.words.specs.declared.unreadable.Unreadable.{Unreadable}
use Rattle.words.specs.declared.unreadable.Unreadable.TheVariants.{MissingWord, NoSlipHere}
use Rattle.words.specs.Keywords.{opening_of}
use Rattle.script.specs.Shapes.{order_of, question_of, rule_of}
use Rattle.words.specs.Slips.{slip_of}
use Rattle.words.specs.Words.{◌>>=◌, at, short_number_at}

-- book NUMBER, then the margin rule
abbrev pub book_of : List (List ℕ) → Result Command Unreadable
book_of w = do
  number ← short_number_at w 1
  rule ← rule_of w
  Ok (say.Book number rule)

-- a command with no slip before it
abbrev pub plain : List (List ℕ) → Opening → Result Command Unreadable
plain w Book = book_of w
plain w (Call call) = do
  order ← order_of call w
  Ok (say.Call None order)
plain w (Question question) = do
  asked ← question_of question w
  Ok (say.Ask asked)

-- the same, by the word that it opens with
abbrev pub plain_of : List (List ℕ) → Result Command Unreadable
plain_of w = do
  opening ← opening_of (at w 0)
  plain w opening

-- only a call may have a slip before it
abbrev pub called : List (List ℕ) → Opening → Result Order Unreadable
called w Book = Err NoSlipHere
called w (Call call) = order_of call w
called w (Question question) = Err NoSlipHere

-- the call that follows a slip
abbrev pub call_of : List (List ℕ) → Result Order Unreadable
call_of w = do
  opening ← opening_of (at w 0)
  called w opening

-- the command, once its first word is tried as a slip
abbrev pub after_slip : List ℕ → List (List ℕ) → Option Shown → Result Command Unreadable
after_slip first rest None = plain_of (first ∷ rest)
after_slip first rest (Some slip) = do
  order ← call_of rest
  Ok (say.Call (Some slip) order)

-- the command that the words say
abbrev pub command_of : List (List ℕ) → Result Command Unreadable
command_of [] = Err MissingWord
command_of (first ∷ rest) = after_slip first rest (slip_of first)
