-- How a book is read as a ledger. Assumes nothing.
use Rattle.ledger.specs.Ledger.{Ledger}
use Rattle.ledger.specs.Read.{read}
use Rattle.ledger.specs.declared.state.State.{State}

-- all that it holds is in its record
abbrev pub view : State → Ledger
view s = read s.held
