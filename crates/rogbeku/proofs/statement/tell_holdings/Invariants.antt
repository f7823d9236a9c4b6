use Rattle.std.specs.Io.KnownBytes.{Appends}
use Rattle.ledger.specs.View.{view}
use Rattle.rogbeku.specs.Statement.{lines_to, lots_line, held_of}
use Rattle.rogbeku.proofs.statement.tell_holdings.Given as goal

abbrev pub invariant-loop-contract : goal.invariant-loop-contract
invariant-loop-contract g l = Appends (g.W.Write.contents l.initial.out) (g.W.Write.contents l.out) (lines_to l.contract (λ k. lots_line k (held_of (view l.book.state) l.account k)))
