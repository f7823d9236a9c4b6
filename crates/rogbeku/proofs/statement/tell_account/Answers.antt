use Rattle.std.proofs.Common.{◌≡◌, rules, sym}
use Rattle.std.proofs.lemmas.Result.{on_ok_weaker}
use Rattle.ledger.specs.View.{view}
use Rattle.rogbeku.specs.Statement.{funds_of}
use Rattle.rogbeku.proofs.Printing.{appends_more}
use Rattle.rogbeku.proofs.statement.tell_account.Goals as goal

pub returns : goal.returns
returns g c =
    let funds : c.in-Ok.funds ≡ funds_of (view c.args.book.now.state) c.args.account = search rules in
    let line = rw funds at c.in_ok-tell_funds.ensures in
    on_ok_weaker c.tell_holdings.result (λ more. rw (sym c.if-is_idle.ensures) (appends_more _ _ _ _ _ line more)) c.tell_holdings.ensures
