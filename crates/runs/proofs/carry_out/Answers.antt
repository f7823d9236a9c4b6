use Rattle.std.proofs.Common.{[], ◌∷◌, ◌++◌, map, get_or, take, vec_items, Result, sym, ap, ◌∙◌, append_assoc, arith, take_all}
use Rattle.refusals.specs.declared.Refusal.{Refusal}
use Rattle.ledger.specs.Ledger.{Ledger}
use Rattle.ledger.specs.View.{view}
use Rattle.ledger.specs.Calls.{answer, after}
use Rattle.ledger.specs.declared.records.Reply.{Reply}
use Rattle.session.specs.declared.orders.Order.TheVariants.{Deposit}
use Rattle.book.specs.Acts.{act, stepped}
use Rattle.book.specs.declared.calls.Call.{Call}
use Rattle.runs.specs.Journal.{reached, answers}
use Rattle.runs.proofs.Runs.{reached_more, answers_more}
use Rattle.runs.proofs.carry_out.Goals as goal

-- the call that the checker writes for a place outside the list
abbrev no_call : Call
no_call = record { book = 0; day = 0; order = Deposit (record { account = 0; amount = 0 }) }

pub loop-call-preserved : goal.loop-call-preserved
loop-call-preserved g c =
    let meaning = g.R.MarginRule.meaning in
    let rule = meaning c.args.book.now.rule in
    let from = view c.args.book.now.state in
    let calls = c.args.calls.now in
    let i = c.loop-call.call-index in
    let s = view c.loop-call.book.state in
    let x = act (get_or calls i no_call) in
    let inv = c.loop-call.invariant in
    let did = c.perform-answer.ensures.performs in
    let told = c.push_reserved.ensures in
    let items = vec_items c.args.told.now in
    let front = answers rule from (map act (take i calls)) in
    let within = c.loop-call-test.true in
    let here = ap (λ r. stepped (meaning r) s x) inv.0 ∙ ap (λ (t : Ledger). stepped rule t x) inv.1 in
    let left = did.leaves ∙ ap (λ r. after s (stepped (meaning r) s x)) inv.0 ∙ ap (λ (t : Ledger). after t (stepped rule t x)) inv.1 ∙ sym (reached_more rule from act calls i no_call within) in
    let said = ap (λ (y : Result Reply Refusal). items ++ (front ++ (y ∷ []))) (did.answers ∙ ap answer here) in
    let all = told.items ∙ ap (λ xs. xs ++ (c.perform-answer.result ∷ [])) inv.2 ∙ append_assoc items front (c.perform-answer.result ∷ []) ∙ said ∙ ap (λ ys. items ++ ys) (sym (answers_more rule from act calls i no_call within)) in
    (c.perform-answer.ensures.rule ∙ inv.0, left, all, omega (arith, told.len, inv.3), told.capacity ∙ inv.4)

pub returns : goal.returns
returns g c =
    let rule = g.R.MarginRule.meaning c.args.book.now.rule in
    let from = view c.args.book.now.state in
    let inv = c.loop-call.invariant in
    let whole = take_all c.loop-call.call-index c.args.calls.now c.loop-call-test.false in
    record {
      leaves = inv.1 ∙ ap (λ xs. reached rule from (map act xs)) whole;
      answers = inv.2 ∙ ap (λ xs. vec_items c.args.told.now ++ answers rule from (map act xs)) whole;
      rule = inv.0;
    }
