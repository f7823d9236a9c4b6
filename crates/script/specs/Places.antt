-- Where the book is made among the commands of a script. Assumes nothing.
use Rattle.std.specs.Prelude.{Ok, Err, Result}
use Rattle.script.specs.declared.command.Command.{Command}
use Rattle.script.specs.declared.command.Command.TheVariants.{Book, Call, Ask}
use Rattle.script.specs.declared.opening.Start.{Start}
use Rattle.script.specs.declared.opening.Start.TheVariants.{Awaited, Made, Missed}
use Rattle.words.specs.declared.unreadable.Unreadable.{Unreadable}
use Rattle.words.specs.declared.unreadable.Unreadable.TheVariants.{NoBook, LateBook, SecondBook}

-- a book may stand only where it is awaited
abbrev pub late_book : Start → Result (Unit {0}) Unreadable
late_book Awaited = Ok tt
late_book Made = Err SecondBook
late_book Missed = Err LateBook

-- and any other command only where it is not
abbrev pub early : Start → Result (Unit {0}) Unreadable
early Awaited = Err NoBook
early Made = Ok tt
early Missed = Ok tt

-- that a command may stand where it does, or why not
abbrev pub well_placed_of : Command → Start → Result (Unit {0}) Unreadable
well_placed_of (Book number rule) start = late_book start
well_placed_of (Call slip order) start = early start
well_placed_of (Ask question) start = early start

-- the first command decides, and no later one
abbrev pub unless_awaited : Start → Start → Start
unless_awaited now Awaited = now
unless_awaited now Made = Made
unless_awaited now Missed = Missed

-- where the book stands after a command
abbrev pub start_after : Command → Start → Start
start_after (Book number rule) start = unless_awaited Made start
start_after (Call slip order) start = unless_awaited Missed start
start_after (Ask question) start = unless_awaited Missed start
