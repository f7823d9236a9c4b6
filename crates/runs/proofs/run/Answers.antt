use Rattle.std.proofs.Common.{[], ◌++◌, map, vec_items, sym, refl, ap, ◌∙◌, append-nil}
use Rattle.std.proofs.lemmas.Result.{err_from_is_err_and}
use Rattle.ledger.specs.View.{view}
use Rattle.book.specs.Acts.{act}
use Rattle.runs.specs.Journal.{answers}
use Rattle.runs.proofs.Runs.{law}
use Rattle.runs.proofs.run.Goals as goal

pub returns-in_err-reserve : goal.returns-in_err-reserve
returns-in_err-reserve g c =
    let rule = g.R.MarginRule.meaning c.args.book.now.rule in
    let lawful = g.met.R.MarginRule.lawful c.args.book.now.rule in
    let p = err_from_is_err_and c.from_residual.result c.from_residual.ensures.1 in
    rw p.1 (record {
      leaves = refl;
      answers = c.in_err-reserve.ensures.items ∙ sym (append-nil (vec_items c.args.told.now));
      rule = refl;
      spares = refl;
      law = λ n before from. law rule lawful n before [] _ _ from refl;
    })

pub returns : goal.returns
returns g c =
    let rule = g.R.MarginRule.meaning c.args.book.now.rule in
    let lawful = g.met.R.MarginRule.lawful c.args.book.now.rule in
    let did = c.carry_out.ensures in
    record {
      leaves = did.leaves;
      answers = did.answers ∙ ap (λ xs. xs ++ answers rule (view c.args.book.now.state) (map act c.args.calls.now)) c.in_ok-reserve.ensures.items;
      rule = did.rule;
      spares = tt;
      law = λ n before from. law rule lawful n before (map act c.args.calls.now) _ _ from did.leaves;
    }
