use Rattle.std.proofs.Common.{◌≡◌, ◌++◌, List, ℕ, drop}
use Rattle.std.specs.Io.KnownBytes.{Appends}
use Rattle.ledger.specs.View.{view}
use Rattle.rogbeku.specs.Commands.{all_printed}
use Rattle.rogbeku.specs.Counting.{count_of}
use Rattle.rogbeku.specs.Tally.{all_counted}
use Rattle.rogbeku.proofs.desk.Desk.carry_out_all.Given as goal

abbrev pub invariant-loop-line : goal.invariant-loop-line
invariant-loop-line g l =
    let rule = g.R.MarginRule.meaning l.initial.self.book.rule in
    (l.self.book.rule ≡ l.initial.self.book.rule)
    × ((so-far : List ℕ)
    × Appends (g.W.Write.contents l.initial.self.teller.out) (g.W.Write.contents l.self.teller.out) so-far
    × (all_printed rule (view l.initial.self.book.state) l.lines ≡ so-far ++ all_printed rule (view l.self.book.state) (drop l.line-index l.lines)))
    × (all_counted rule (view l.initial.self.book.state) l.lines (count_of l.initial.self.teller) ≡ all_counted rule (view l.self.book.state) (drop l.line-index l.lines) (count_of l.self.teller))
