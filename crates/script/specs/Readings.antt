-- What a line says, and a whole script. Assumes nothing.
use Rattle.std.specs.Prelude.{◌≡◌, ℕ, ◌+◌, Bool, false, cond, not, List, [], ◌∷◌, ◌++◌, length, codes, Some, None, Option, Ok, Err, Result, vec_items, nat_lt, ◌==◌, if◌then◌else◌}
use Rattle.std.specs.Fmt.{decimal}
use Rattle.std.specs.List.{list_all}
use Rattle.words.specs.declared.unreadable.Unreadable.{Unreadable}
use Rattle.words.specs.declared.unreadable.Unreadable.TheVariants as why
use Rattle.words.specs.Reasons.{reason_of}
use Rattle.words.specs.Words.{◌>>=◌}
use Rattle.script.specs.declared.command.Command.{Command}
use Rattle.script.specs.declared.error.ReadError.{ReadError}
use Rattle.script.specs.declared.error.ReadError.TheVariants.{Text, Memory}
use Rattle.script.specs.declared.opening.Start.{Start}
use Rattle.script.specs.declared.opening.Start.TheVariants.{Awaited, Made, Missed}
use Rattle.script.specs.declared.reading.Line.{Line}
use Rattle.script.specs.declared.reading.Fault.{Fault}
use Rattle.script.specs.declared.reading.Reader.{Reader}
use Rattle.script.specs.Commands.{command_of}
use Rattle.script.specs.Lines.{parts, words_of, opens_book_of}
use Rattle.script.specs.Places.{well_placed_of, start_after, unless_awaited}

-- a result, seen by two views, is what reading gives; nothing is said where memory ran out
abbrev pub Gives : {A B E F : Type 0} → (A → B) → (E → F) → Result A (ReadError E) → Result B F → Type 0
Gives view views (Ok found) read = read ≡ Ok (view found)
Gives view views (Err (Text fault)) read = read ≡ Err (views fault)
Gives view views (Err (Memory error)) read = Unit {0}

-- what the words of a line say: nothing where there are none, a command, or why not
abbrev pub worded : List (List ℕ) → Result (Option Command) Unreadable
worded [] = Ok None
worded (first ∷ rest) = do
  command ← command_of (first ∷ rest)
  Ok (Some command)

-- whether a line is plain text: bytes below 128
abbrev pub is_plain : List ℕ → Bool
is_plain line = list_all (λ b. nat_lt b 128) line

-- what a line says; only plain text can be read
abbrev pub says_of : List ℕ → Result (Option Command) Unreadable
says_of line = if is_plain line then worded (words_of line) else Err why.NotAscii

-- what is told of a line that cannot be read: its number, and why
abbrev pub fault_text : Fault → List ℕ
fault_text fault = codes "line " ++ decimal fault.line ++ codes ": unreadable: " ++ reason_of fault.why

-- what has been read so far
pub record Read : Type 0 where
  pub start : Start
  pub lines : List Line
  pub faults : List Fault

-- what a reader holds
abbrev pub read_by : Reader → Read
read_by reader = record { start = reader.start; lines = vec_items reader.lines; faults = vec_items reader.faults }

-- a command is taken in, or told where it may not stand
abbrev pub placed : ℕ → Command → Result (Unit {0}) Unreadable → Read → Read
placed number command (Ok done) read = record { start = start_after command read.start; lines = read.lines ++ (record { number = number; command = command } ∷ []); faults = read.faults }
placed number command (Err why) read = record { start = start_after command read.start; lines = read.lines; faults = read.faults ++ (record { line = number; why = why } ∷ []) }

-- what a line says is taken in; a `book` line that cannot be read stands for the making of the book
abbrev pub taken_in : ℕ → Bool → Result (Option Command) Unreadable → Read → Read
taken_in number is-book (Ok None) read = read
taken_in number is-book (Ok (Some command)) read = placed number command (well_placed_of command read.start) read
taken_in number is-book (Err why) read = record { start = cond is-book (unless_awaited Made read.start) read.start; lines = read.lines; faults = read.faults ++ (record { line = number; why = why } ∷ []) }

-- the line with this number is taken in
abbrev pub taken : ℕ → List ℕ → Read → Read
taken number line read = taken_in number (opens_book_of line) (says_of line) read

-- what the lines that follow line `number` lead to, one after another
abbrev pub read_on : ℕ → Read → List (List ℕ) → Read
read_on number read [] = read
read_on number read (line ∷ lines) = read_on (number + 1) (taken (number + 1) line read) lines

-- whether line 1 is told already
abbrev pub told_first_of : List Fault → Bool
told_first_of [] = false
told_first_of (fault ∷ faults) = fault.line == 1

-- where no command was read, the book is missing; line 1 tells it, unless that line is told already
abbrev pub lacks_book_of : Start → List Fault → Bool
lacks_book_of Awaited faults = not (told_first_of faults)
lacks_book_of Made faults = false
lacks_book_of Missed faults = false

-- every fault, that of a missing book first
abbrev pub all_faults : Read → List Fault
all_faults read = cond (lacks_book_of read.start read.faults) (record { line = 1; why = why.NoBook } ∷ read.faults) read.faults

-- the commands where there is no fault, and otherwise the faults
abbrev pub told : Read → Result (List Line) (List Fault)
told read = if length (all_faults read) == 0 then Ok read.lines else Err (all_faults read)

-- before the first line
abbrev pub nothing_yet : Read
nothing_yet = record { start = Awaited; lines = []; faults = [] }

-- what a script says: its lines, which line feeds end, byte 10, numbered from 1
abbrev pub script_of : List ℕ → Result (List Line) (List Fault)
script_of text = told (read_on 0 nothing_yet (parts 10 text))
