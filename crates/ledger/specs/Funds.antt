-- Margin, frozen funds, available funds and free lots: full sums over the holdings and the requests. Assumes nothing.
use Rattle.std.specs.Prelude.{ℕ, ◌-◌, ◌*◌, ◌^◌, ◌≤◌, Bool, true, false, cond, ◌&&◌, ℤ, pos, ◌+ℤ◌, ◌-ℤ◌, Some, None, sum_by, Option, ◌==◌, nat_lt, unsigned_abs}
use Rattle.ledger.specs.Sums.{sum_to, total_to}
use Rattle.ledger.specs.Ledger.{Ledger, cash_of, holding_of, long_of, future_of, option_of, future_under, draw_cash}
use Rattle.ledger.specs.declared.records.Contract.{Contract}
use Rattle.kinds.specs.Kinds.{future_sums, option_sums}
use Rattle.kinds.specs.declared.terms.Holding.{Holding}
use Rattle.ledger.specs.declared.records.Request.{Request}
use Rattle.ledger.specs.declared.records.Wish.{Wish}
use Rattle.ledger.specs.declared.records.Wish.TheVariants.{Exercise, Abandon}
use Rattle.ledger.specs.declared.records.Channel.{Channel}
use Rattle.ledger.specs.declared.records.Channel.TheVariants.{Instruction, Service}

-- the margin rate a lot of a contract; 0 where none is listed
abbrev pub rate_of : {T : Type 0} → Option (Contract T) → ℕ
rate_of None = 0
rate_of (Some x) = x.rate

-- the margin of a whole holding in a contract, at its rate: both sides of a future bear it, of an option the short side
abbrev pub contract_margin : Ledger → ℕ → Holding → ℕ
contract_margin s k h = cond (nat_lt k 4) (future_sums.margin (rate_of (future_of s k)) h) (option_sums.margin (rate_of (option_of s k)) h)

-- an account's margin, over its twenty holdings
abbrev pub margin_of : Ledger → ℕ → ℕ
margin_of s a = sum_to 20 (λ k. contract_margin s k (holding_of s a k))

-- an instruction freezes what it needs, a service request nothing
abbrev pub is_instruction : Channel → Bool
is_instruction Instruction = true
is_instruction Service = false

-- an exercise needs funds, an abandonment none
abbrev pub is_exercise : Wish → Bool
is_exercise Exercise = true
is_exercise Abandon = false

-- a live instruction of this account
abbrev pub instructs : ℕ → Request → Bool
instructs a q = is_instruction q.channel && q.account == a

-- the lots that a request freezes in an account's holding of an option
abbrev pub lots_frozen_by : ℕ → ℕ → Request → ℕ
lots_frozen_by a k q = cond (instructs a q && q.option == k) q.lots 0

-- the funds that a request freezes in an account: its lots at the margin rate of the option's future
abbrev pub funds_frozen_by : Ledger → ℕ → Request → ℕ
funds_frozen_by s a q = cond (instructs a q && is_exercise q.wish) (q.lots * rate_of (future_under s (option_of s q.option))) 0

-- of a place of the request table; one that no request has taken freezes nothing
abbrev pub of_place : (Request → ℕ) → Option Request → ℕ
of_place f None = 0
of_place f (Some q) = f q

-- over the whole request table, the lots
abbrev pub frozen_lots_of : Ledger → ℕ → ℕ → ℕ
frozen_lots_of s a k = sum_by (of_place (lots_frozen_by a k)) s.requests

-- long lots that no live instruction has taken
abbrev pub free_of : Ledger → ℕ → ℕ → ℕ
free_of s a k = long_of s a k - frozen_lots_of s a k

-- and the funds
abbrev pub frozen_of : Ledger → ℕ → ℕ
frozen_of s a = sum_by (of_place (funds_frozen_by s a)) s.requests

-- cash less margin less frozen funds
abbrev pub available_of : Ledger → ℕ → ℤ
available_of s a = cash_of s a -ℤ pos (margin_of s a) -ℤ pos (frozen_of s a)

-- the range in which an account's cash is held: 10^18 fen either way
abbrev pub InRange : ℤ → Type 0
InRange x = unsigned_abs x ≤ 10 ^ 18

-- all cash: that of the 32 accounts and of the open draw
abbrev pub all_cash : Ledger → ℤ
all_cash s = total_to 32 (cash_of s) +ℤ draw_cash s
