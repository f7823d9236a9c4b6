use Rattle.ledger.specs.View.{view}
use Rattle.rogbeku.specs.Statement.{lots_line, held_of}
use Rattle.rogbeku.proofs.Printing.{appends_more, appends_none, lines_to_none, lines_to_more}
use Rattle.rogbeku.proofs.statement.tell_holdings.Goals as goal

pub loop-contract-init : goal.loop-contract-init
loop-contract-init g c = rw (lines_to_none (λ k. lots_line k (held_of (view c.args.book.now.state) c.args.account k))) (appends_none (g.W.Write.contents c.args.out.now))

pub loop-contract-preserved : goal.loop-contract-preserved
loop-contract-preserved g c =
    let line = rw c.held.ensures at c.in_ok-tell_lots.ensures in
    rw (lines_to_more c.loop-contract.contract (λ k. lots_line k (held_of (view c.args.book.now.state) c.args.account k))) (appends_more _ _ _ _ _ c.loop-contract.invariant line)
