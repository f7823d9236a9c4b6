use Rattle.ledger.specs.View.{view}
use Rattle.rogbeku.specs.Statement.{account_lines}
use Rattle.rogbeku.proofs.Printing.{appends_more, appends_none, lines_to_none, lines_to_more}
use Rattle.rogbeku.proofs.statement.tell_accounts.Goals as goal

pub loop-account-init : goal.loop-account-init
loop-account-init g c = rw (lines_to_none (account_lines (view c.args.book.now.state))) (appends_none (g.W.Write.contents c.args.out.now))

pub loop-account-preserved : goal.loop-account-preserved
loop-account-preserved g c =
    rw (lines_to_more c.loop-account.account (account_lines (view c.args.book.now.state))) (appends_more _ _ _ _ _ c.loop-account.invariant c.in_ok-tell_account.ensures)
