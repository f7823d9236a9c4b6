use Rattle.std.proofs.Common.{◌≡◌, ◌+◌, ◌++◌, map, take, vec_items, vec_len, vec_capacity}
use Rattle.ledger.specs.View.{view}
use Rattle.book.specs.Acts.{act}
use Rattle.runs.specs.Journal.{reached, answers}
use Rattle.runs.proofs.carry_out.Given as goal

abbrev pub invariant-loop-call : goal.invariant-loop-call
invariant-loop-call g l =
    (l.book.rule ≡ l.initial.book.rule)
    × (view l.book.state ≡ reached (g.R.MarginRule.meaning l.initial.book.rule) (view l.initial.book.state) (map act (take l.call-index l.calls)))
    × (vec_items l.told ≡ vec_items l.initial.told ++ answers (g.R.MarginRule.meaning l.initial.book.rule) (view l.initial.book.state) (map act (take l.call-index l.calls)))
    × (vec_len l.told ≡ vec_len l.initial.told + l.call-index)
    × (vec_capacity l.told ≡ vec_capacity l.initial.told)
