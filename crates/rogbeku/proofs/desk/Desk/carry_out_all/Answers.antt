use Rattle.std.proofs.Common.{◌+◌, ◌++◌, get_or, drop, sym, ap, ◌∙◌, append_assoc}
use Rattle.std.proofs.lemmas.List.{at_drop_more}
use Rattle.ledger.specs.View.{view}
use Rattle.script.specs.declared.command.BaseRule.TheVariants.{Standard}
use Rattle.script.specs.declared.command.RuleName.TheVariants.{Base}
use Rattle.script.specs.declared.command.Command.TheVariants.{Book}
use Rattle.script.specs.declared.reading.Line.{Line}
use Rattle.rogbeku.specs.Commands.{printed, after_command, all_printed}
use Rattle.rogbeku.specs.Counting.{count_of}
use Rattle.rogbeku.specs.Tally.{counted, all_counted}
use Rattle.rogbeku.proofs.Printing.{appends_more}
use Rattle.rogbeku.proofs.desk.Desk.carry_out_all.Goals as goal

-- the line that the checker writes for a place outside the list
abbrev no_line : Line
no_line = record { number = 0; command = Book 0 (Base Standard) }

pub loop-line-preserved : goal.loop-line-preserved
loop-line-preserved g c =
    let meaning = g.R.MarginRule.meaning in
    let rule = meaning c.args.self.now.book.rule in
    let s = view c.loop-line.self.book.state in
    let lines = c.args.lines.now in
    let i = c.loop-line.line-index in
    let line = get_or lines i no_line in
    let inv = c.loop-line.invariant in
    let did = c.in_ok-carry_out.ensures in
    let text = printed rule s line.number line.command in
    let more = rw inv.0 at did.prints in
    let moved = did.leaves ∙ ap (λ r. after_command (meaning r) s line.command) inv.0 in
    let next = at_drop_more (all_printed rule s) lines i no_line c.loop-line-test.true ∙ ap (λ t. text ++ all_printed rule t (drop (i + 1) lines)) (sym moved) in
    let after = ap (λ r. counted (meaning r) s line.command (count_of c.loop-line.self.teller)) inv.0 in
    let rest = drop (i + 1) lines in
    let count = at_drop_more (λ l. all_counted rule s l (count_of c.loop-line.self.teller)) lines i no_line c.loop-line-test.true
    ∙ ap (λ t. all_counted rule t rest (counted rule s line.command (count_of c.loop-line.self.teller))) (sym moved)
    ∙ ap (λ n. all_counted rule (view c.carry_out.new.self.book.state) rest n) (sym (did.counts ∙ after)) in
    (did.rule ∙ inv.0, (inv.1.0 ++ text, appends_more _ _ _ _ _ inv.1.1 more, inv.1.2 ∙ ap (λ l. inv.1.0 ++ l) next ∙ sym (append_assoc inv.1.0 text (all_printed rule (view c.carry_out.new.self.book.state) (drop (i + 1) lines)))), inv.2 ∙ count)
