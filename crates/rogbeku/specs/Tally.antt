-- How calls and questions are counted: those carried out, and those refused. Assumes nothing.
use Rattle.std.specs.Prelude.{ℕ, ◌+◌, ◌-◌, ◌^◌, min, Bool, false, cond, List, [], ◌∷◌}
use Rattle.std.specs.Result.{is_err}
use Rattle.margin.specs.Rules.{Rule}
use Rattle.ledger.specs.Ledger.{Ledger}
use Rattle.ledger.specs.Calls.{Outcome, refused, done}
use Rattle.ledger.specs.Questions.{cash_answer, margin_answer, frozen_answer, available_answer, contract_answer, holding_answer, draw_lots_answer}
use Rattle.script.specs.declared.command.Command.{Command}
use Rattle.script.specs.declared.command.Command.TheVariants as say
use Rattle.script.specs.declared.command.Question.{Question}
use Rattle.script.specs.declared.command.Question.TheVariants.{Cash, Margin, Frozen, Available, Holding, Contract, DrawLots, DrawCash, Day, Statement}
use Rattle.script.specs.declared.reading.Line.{Line}
use Rattle.rogbeku.specs.Commands.{called, after_command}

-- what was carried out, and what was refused
pub record Count : Type 0 where
  pub done : ℕ
  pub refused : ℕ

-- one more, as far as 64 bits go
abbrev pub one_more : ℕ → ℕ
one_more n = min (n + 1) (2 ^ 64 - 1)

abbrev pub done_more : Count → Count
done_more n = record { done = one_more n.done; refused = n.refused }

abbrev pub refused_more : Count → Count
refused_more n = record { done = n.done; refused = one_more n.refused }

-- after a call
abbrev pub after_call : Outcome → Count → Count
after_call (done reply t) n = done_more n
after_call (refused r) n = refused_more n

-- whether a question is refused
abbrev pub is_refused : Ledger → Question → Bool
is_refused s (Cash a) = is_err (cash_answer s a)
is_refused s (Margin a) = is_err (margin_answer s a)
is_refused s (Frozen a) = is_err (frozen_answer s a)
is_refused s (Available a) = is_err (available_answer s a)
is_refused s (Holding a k) = is_err (holding_answer s a k)
is_refused s (Contract k) = is_err (contract_answer s k)
is_refused s (DrawLots k) = is_err (draw_lots_answer s k)
is_refused s DrawCash = false
is_refused s Day = false
is_refused s Statement = false

-- after a question; one that is answered is not counted
abbrev pub after_question : Bool → Count → Count
after_question refusal n = cond refusal (refused_more n) n

-- after a command
abbrev pub counted : Rule → Ledger → Command → Count → Count
counted rule s (say.Book number name) n = n
counted rule s (say.Call slip order) n = after_call (called rule s slip order) n
counted rule s (say.Ask question) n = after_question (is_refused s question) n

-- after all of them
abbrev pub all_counted : Rule → Ledger → List Line → Count → Count
all_counted rule s [] n = n
all_counted rule s (line ∷ lines) n = all_counted rule (after_command rule s line.command) lines (counted rule s line.command n)
