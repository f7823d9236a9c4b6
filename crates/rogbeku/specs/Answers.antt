-- What each command's line is answered with. Assumes nothing.
use Rattle.std.specs.Prelude.{ℕ, List, ◌++◌, Ok, Err, Result, codes}
use Rattle.std.specs.Fmt.{decimal, signed_decimal}
use Rattle.refusals.specs.declared.Refusal.{Refusal}
use Rattle.refusals.specs.Words.{refusal_text}
use Rattle.kinds.specs.Words.{holding_text}
use Rattle.ledger.specs.Ledger.{Ledger, draw_cash}
use Rattle.ledger.specs.Questions.{cash_answer, margin_answer, frozen_answer, available_answer, contract_answer, holding_answer, draw_lots_answer}
use Rattle.ledger.specs.Words.{position_text, quote_text}
use Rattle.ledger.specs.declared.records.Reply.{Reply}
use Rattle.ledger.specs.declared.records.Reply.TheVariants.{Done}
use Rattle.script.specs.declared.command.Question.{Question}
use Rattle.script.specs.declared.command.Question.TheVariants.{Cash, Margin, Frozen, Available, Holding, Contract, DrawLots, DrawCash, Day, Statement}
use Rattle.rogbeku.specs.Lines.{line_of}
use Rattle.rogbeku.specs.Statement.{statement_lines}
use Rattle.rogbeku.specs.Today.{today_of, today_text}

-- a call that was carried out, or its refusal
abbrev pub call_text : Result Reply Refusal → List ℕ
call_text (Ok Done) = codes "ok"
call_text (Err refusal) = refusal_text refusal

-- a question's value after the word `is`, or its refusal
abbrev pub answer_line : {V : Type 0} → ℕ → (V → List ℕ) → Result V Refusal → List ℕ
answer_line line text (Ok value) = line_of line (codes "is " ++ text value)
answer_line line text (Err refusal) = line_of line (refusal_text refusal)

-- each question as the book answers it
abbrev pub asked : Ledger → ℕ → Question → List ℕ
asked s line (Cash a) = answer_line line signed_decimal (cash_answer s a)
asked s line (Margin a) = answer_line line decimal (margin_answer s a)
asked s line (Frozen a) = answer_line line decimal (frozen_answer s a)
asked s line (Available a) = answer_line line signed_decimal (available_answer s a)
asked s line (Holding a k) = answer_line line position_text (holding_answer s a k)
asked s line (Contract k) = answer_line line quote_text (contract_answer s k)
asked s line (DrawLots k) = answer_line line holding_text (draw_lots_answer s k)
asked s line DrawCash = answer_line line signed_decimal (Ok (draw_cash s))
asked s line Day = answer_line line today_text (Ok (today_of s))
asked s line Statement = statement_lines s line
