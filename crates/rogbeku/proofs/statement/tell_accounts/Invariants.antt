use Rattle.std.specs.Io.KnownBytes.{Appends}
use Rattle.ledger.specs.View.{view}
use Rattle.rogbeku.specs.Statement.{lines_to, account_lines}
use Rattle.rogbeku.proofs.statement.tell_accounts.Given as goal

abbrev pub invariant-loop-account : goal.invariant-loop-account
invariant-loop-account g l = Appends (g.W.Write.contents l.initial.out) (g.W.Write.contents l.out) (lines_to l.account (account_lines (view l.book.state)))
