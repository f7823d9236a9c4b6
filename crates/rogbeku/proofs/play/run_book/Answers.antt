use Rattle.std.proofs.Common.{◌≡◌, subst, ap, ◌∙◌, rules}
use Rattle.std.proofs.lemmas.Result.{IfOk-weaker}
use Rattle.std.specs.Io.KnownBytes.{Appends}
use Rattle.ledger.specs.Ledger.{made}
use Rattle.rogbeku.specs.Counting.{count_of}
use Rattle.rogbeku.specs.Tally.{all_counted}
use Rattle.rogbeku.specs.Opening.{made_alone, refused_alone, told_count}
use Rattle.rogbeku.proofs.Printing.{appends_more}
use Rattle.rogbeku.proofs.play.run_book.Goals as goal

pub returns-in_ok-carry_out_all-in-Ok : goal.returns-in_ok-carry_out_all-in-Ok
returns-in_ok-carry_out_all-in-Ok g c =
    let contents = g.W.Write.contents in
    let rule = g.R.MarginRule.meaning c.in-Ok.rule in
    let first = rw c.new-teller.ensures at c.in_ok-carried_out-in-Ok.ensures.prints in
    let did = c.in_ok-carry_out_all-in-Ok.ensures in
    let all = rw (c.new-book.ensures.rule, c.new-book.ensures.stands) at did.prints in
    let start : count_of c.carried_out.new.self ≡ made_alone = search rules in
    let count = rw (c.new-book.ensures.rule, c.new-book.ensures.stands) at did.counts ∙ ap (all_counted rule (made c.args.making.number) c.args.commands.now) start in
    let teller = c.carry_out_all.new.self.teller in
    rw c.in-Ok.is (IfOk-weaker c.end.result _ _ (λ written last. appends_more _ _ _ _ _ (appends_more _ _ _ _ _ first all) (subst (λ n. Appends (contents teller.out) (contents written) (told_count n)) count last)) c.end.ensures)

pub returns-in_ok-refuse-in-Err : goal.returns-in_ok-refuse-in-Err
returns-in_ok-refuse-in-Err g c =
    let contents = g.W.Write.contents in
    let first = rw c.new-teller.ensures at c.in_ok-refuse-in-Err.ensures.prints in
    let teller = c.refuse.new.self in
    let count : count_of teller ≡ refused_alone = search rules in
    rw c.in-Err.is (IfOk-weaker c.end-in-Err.result _ _ (λ written last. appends_more _ _ _ _ _ first (subst (λ n. Appends (contents teller.out) (contents written) (told_count n)) count last)) c.end-in-Err.ensures)
