-- What each question answers. Assumes nothing.
use Rattle.std.specs.Prelude.{ℕ, cond, ℤ, Some, None, Ok, Err, Option, Result, nat_le}
use Rattle.refusals.specs.declared.Refusal.{Refusal}
use Rattle.refusals.specs.declared.Refusal.TheVariants.{NoSuch}
use Rattle.ledger.specs.Accounts.{of_account}
use Rattle.ledger.specs.Ledger.{Ledger, cash_of, long_of, short_of, future_of, option_of, draw_holding}
use Rattle.ledger.specs.Funds.{margin_of, frozen_of, available_of, free_of}
use Rattle.ledger.specs.declared.records.Contract.{Contract}
use Rattle.kinds.specs.declared.terms.Holding.{Holding}
use Rattle.ledger.specs.declared.questions.Position.{Position}
use Rattle.ledger.specs.declared.questions.Quote.{Quote}

-- its cash
abbrev pub cash_answer : Ledger → ℕ → Result ℤ Refusal
cash_answer s a = of_account a (cash_of s a)

-- its margin
abbrev pub margin_answer : Ledger → ℕ → Result ℕ Refusal
margin_answer s a = of_account a (margin_of s a)

-- its frozen funds
abbrev pub frozen_answer : Ledger → ℕ → Result ℕ Refusal
frozen_answer s a = of_account a (frozen_of s a)

-- its available funds
abbrev pub available_answer : Ledger → ℕ → Result ℤ Refusal
available_answer s a = of_account a (available_of s a)

-- what is listed at a number: the price carried and the margin rate
abbrev pub quoted : {T : Type 0} → Option (Contract T) → Option Quote → Option Quote
quoted None else = else
quoted (Some x) else = Some (record { price = x.carried; rate = x.rate })

-- of a future, else of an option
abbrev pub quote_of : Ledger → ℕ → Option Quote
quote_of s k = quoted (future_of s k) (quoted (option_of s k) None)

-- about a contract: it is refused where none is listed
abbrev pub of_contract : {A B : Type 0} → ℕ → Option A → (A → B) → Result B Refusal
of_contract k None f = Err (NoSuch k)
of_contract k (Some q) f = Ok (f q)

-- about what is listed at a number
abbrev pub contract_answer : Ledger → ℕ → Result Quote Refusal
contract_answer s k = of_contract k (quote_of s k) (λ q. q)

-- an account's lots in a contract
abbrev pub position_answer : Ledger → ℕ → ℕ → Result Position Refusal
position_answer s a k = of_contract k (quote_of s k) (λ q. record { long = long_of s a k; short = short_of s a k; free = free_of s a k })

-- about a holding: the account is looked at first
abbrev pub holding_answer : Ledger → ℕ → ℕ → Result Position Refusal
holding_answer s a k = cond (nat_le 32 a) (Err (NoSuch a)) (position_answer s a k)

-- the open draw's lots in a contract, 0 where none is open
abbrev pub draw_lots_answer : Ledger → ℕ → Result Holding Refusal
draw_lots_answer s k = of_contract k (quote_of s k) (λ q. draw_holding s.draw k)
