-- The slip that a script's call shows. Assumes nothing.
use Rattle.std.specs.Prelude.{Some, None, Option}
use Rattle.ledger.specs.Ledger.{Ledger}
use Rattle.session.specs.declared.orders.Order.{Order}
use Rattle.words.specs.declared.slip.Shown.{Shown}
use Rattle.book.specs.declared.calls.Call.{Call}

-- the one that is written before it, else one with the book's own number and present day
abbrev pub written : Ledger → Option Shown → Order → Call
written s None order = record { book = s.number; day = s.day; order = order }
written s (Some slip) order = record { book = slip.book; day = slip.day; order = order }
