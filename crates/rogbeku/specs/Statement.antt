-- The statement: each account that has cash or a lot, with its holdings. Assumes nothing.
use Rattle.std.specs.Prelude.{ℕ, zero, suc, Bool, cond, not, ◌&&◌, List, [], ◌++◌, Some, None, Option, Ok, Err, Result, codes, is_some, pos, ◌==◌}
use Rattle.std.specs.List.{list_any, range_with_len}
use Rattle.std.specs.Ordering.{int_eq}
use Rattle.std.specs.Fmt.{decimal, signed_decimal}
use Rattle.refusals.specs.declared.Refusal.{Refusal}
use Rattle.kinds.specs.declared.terms.Holding.{Holding}
use Rattle.kinds.specs.Words.{holding_text}
use Rattle.ledger.specs.Ledger.{Ledger, cash_of}
use Rattle.ledger.specs.Funds.{margin_of, frozen_of, available_of}
use Rattle.ledger.specs.Questions.{holding_answer}
use Rattle.ledger.specs.declared.questions.Position.{Position}
use Rattle.rogbeku.specs.Lines.{line_of}
use Rattle.rogbeku.specs.declared.statement.AccountFunds.{AccountFunds}

-- the texts for the numbers below a number, in rising order
unfoldable pub lines_to : ℕ → (ℕ → List ℕ) → List ℕ
lines_to zero f = []
lines_to (suc n) f = lines_to n f ++ f n

-- each sum after its word
abbrev pub funds_text : AccountFunds → List ℕ
funds_text f =
    codes "cash " ++ (signed_decimal f.cash ++ (codes " margin " ++ (decimal f.margin ++ (codes " frozen " ++ (decimal f.frozen ++ (codes " available " ++ signed_decimal f.available))))))

-- an account by its number, and its funds
abbrev pub funds_line : ℕ → AccountFunds → List ℕ
funds_line a f = codes "  account " ++ (decimal a ++ (codes " " ++ (funds_text f ++ codes "\n")))

-- an account's cash, margin, frozen funds and available funds
abbrev pub funds_of : Ledger → ℕ → AccountFunds
funds_of s a = record { cash = cash_of s a; margin = margin_of s a; frozen = frozen_of s a; available = available_of s a }

-- the lots of a position, where there are any
abbrev pub lots_in : Result Position Refusal → Option Holding
lots_in (Ok p) = cond (p.long == 0 && p.short == 0) None (Some (record { long = p.long; short = p.short }))
lots_in (Err r) = None

-- an account's lots in a contract, where it has any
abbrev pub held_of : Ledger → ℕ → ℕ → Option Holding
held_of s a k = lots_in (holding_answer s a k)

-- whether it has a lot in any of the twenty contracts
abbrev pub holds_any_of : Ledger → ℕ → Bool
holds_any_of s a = list_any (λ k. is_some (held_of s a k)) (range_with_len 0 20)

-- a contract in which an account has lots, by its number, and the lots
abbrev pub lots_line : ℕ → Option Holding → List ℕ
lots_line k None = []
lots_line k (Some h) = codes "    contract " ++ decimal k ++ codes " " ++ holding_text h ++ codes "\n"

-- it has no cash and no lot
abbrev pub is_idle_of : Ledger → ℕ → Bool
is_idle_of s a = int_eq (cash_of s a) (pos 0) && not (holds_any_of s a)

-- each contract in which an account has lots
abbrev pub holding_lines : Ledger → ℕ → List ℕ
holding_lines s a = lines_to 20 (λ k. lots_line k (held_of s a k))

-- an account's funds, and each contract in which it has lots; nothing of an account with no cash and no lots
abbrev pub account_lines : Ledger → ℕ → List ℕ
account_lines s a = cond (is_idle_of s a) [] (funds_line a (funds_of s a) ++ holding_lines s a)

-- all accounts
abbrev pub statement_lines : Ledger → ℕ → List ℕ
statement_lines s line = line_of line (codes "statement") ++ lines_to 32 (account_lines s)
