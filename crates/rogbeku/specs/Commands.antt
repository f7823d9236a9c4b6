-- What a command prints, and the book that it leaves. Assumes nothing.
use Rattle.std.specs.Prelude.{ℕ, List, [], ◌∷◌, ◌++◌, Option}
use Rattle.margin.specs.Rules.{Rule}
use Rattle.ledger.specs.Ledger.{Ledger}
use Rattle.ledger.specs.Calls.{Outcome, answer, after}
use Rattle.book.specs.Acts.{act, stepped}
use Rattle.script.specs.declared.command.Command.{Command}
use Rattle.script.specs.declared.command.Command.TheVariants as say
use Rattle.script.specs.declared.reading.Line.{Line}
use Rattle.session.specs.declared.orders.Order.{Order}
use Rattle.words.specs.declared.slip.Shown.{Shown}
use Rattle.rogbeku.specs.Answers.{call_text, asked}
use Rattle.rogbeku.specs.Lines.{line_of}
use Rattle.rogbeku.specs.Written.{written}

-- what a call of the script comes to
abbrev pub called : Rule → Ledger → Option Shown → Order → Outcome
called rule s slip order = stepped rule s (act (written s slip order))

-- a call prints its answer, a question what is asked; a book is made once
abbrev pub printed : Rule → Ledger → ℕ → Command → List ℕ
printed rule s line (say.Book number name) = []
printed rule s line (say.Call slip order) = line_of line (call_text (answer (called rule s slip order)))
printed rule s line (say.Ask question) = asked s line question

-- only a call changes the book
abbrev pub after_command : Rule → Ledger → Command → Ledger
after_command rule s (say.Book number name) = s
after_command rule s (say.Call slip order) = after s (called rule s slip order)
after_command rule s (say.Ask question) = s

-- all commands, one after another
abbrev pub all_printed : Rule → Ledger → List Line → List ℕ
all_printed rule s [] = []
all_printed rule s (line ∷ lines) = printed rule s line.number line.command ++ all_printed rule (after_command rule s line.command) lines
