-- What a book stands for, and the readers and setters that every result goes through. Assumes nothing.
use Rattle.std.specs.Prelude.{ℕ, ◌-◌, cond, List, [], get_or, replicate, ℤ, pos, Some, None, Option, nat_lt, slice_index_or, slice_set}
use Rattle.kinds.specs.declared.terms.Holding.{Holding}
use Rattle.ledger.specs.declared.records.Account.{Account}
use Rattle.ledger.specs.declared.records.Contract.{Contract}
use Rattle.kinds.specs.declared.terms.FutureTerms.{FutureTerms}
use Rattle.kinds.specs.declared.terms.OptionTerms.{OptionTerms}
use Rattle.ledger.specs.declared.records.Request.{Request}
use Rattle.ledger.specs.declared.records.OpenDraw.{OpenDraw}
use Rattle.ledger.specs.declared.records.Stage.{Stage}
use Rattle.ledger.specs.declared.records.Stage.TheVariants.{Trading}

-- the book: its number, its day and stage, its accounts, its contracts, the day's requests and the open draw
pub record Ledger : Type 0 where
  pub number : ℕ
  pub day : ℕ
  pub stage : Stage
  pub accounts : List Account
  pub futures : List (Option (Contract FutureTerms))
  pub options : List (Option (Contract OptionTerms))
  -- the day's request table; None where no request has taken a place
  pub requests : List (Option Request)
  pub draw : Option OpenDraw

-- the defaults of a look-up are those that the checker itself writes for these records
abbrev pub no_holding : Holding
no_holding = record { long = 0; short = 0 }

-- what a look-up of an account that is not there answers
abbrev pub no_account : Account
no_account = record { cash = pos 0; holdings = record { rows = [] } }

-- an account's cash
abbrev pub cash_of : Ledger → ℕ → ℤ
cash_of s a = (get_or s.accounts a no_account).cash

-- an account's holding in a contract
abbrev pub holding_of : Ledger → ℕ → ℕ → Holding
holding_of s a k = slice_index_or (get_or s.accounts a no_account).holdings.rows k no_holding

-- its long lots
abbrev pub long_of : Ledger → ℕ → ℕ → ℕ
long_of s a k = (holding_of s a k).long

-- its short lots
abbrev pub short_of : Ledger → ℕ → ℕ → ℕ
short_of s a k = (holding_of s a k).short

-- what is listed at a number in a table whose first row has the number `first`
abbrev pub row_of : {T : Type 0} → List (Option (Contract T)) → ℕ → ℕ → Option (Contract T)
row_of rows first k = cond (nat_lt k first) None (slice_index_or rows (k - first) None)

-- the future listed at a number, 0 to 3
abbrev pub future_of : Ledger → ℕ → Option (Contract FutureTerms)
future_of s k = cond (nat_lt k 4) (slice_index_or s.futures k None) None

-- the option listed at a number, 4 to 19
abbrev pub option_of : Ledger → ℕ → Option (Contract OptionTerms)
option_of s k = cond (nat_lt k 4) None (cond (nat_lt k 20) (slice_index_or s.options (k - 4) None) None)

-- the future that an option is on
abbrev pub future_under : Ledger → Option (Contract OptionTerms) → Option (Contract FutureTerms)
future_under s None = None
future_under s (Some x) = future_of s x.terms.future

-- what an open draw holds; without one, nothing
abbrev pub draw_holding : Option OpenDraw → ℕ → Holding
draw_holding None k = no_holding
draw_holding (Some d) k = slice_index_or d.holdings.rows k no_holding

-- an open draw's cash; without one, 0
abbrev pub cash_drawn : Option OpenDraw → ℤ
cash_drawn None = pos 0
cash_drawn (Some d) = d.cash

-- the open draw's long lots in a contract
abbrev pub draw_long : Ledger → ℕ → ℕ
draw_long s k = (draw_holding s.draw k).long

-- its short lots
abbrev pub draw_short : Ledger → ℕ → ℕ
draw_short s k = (draw_holding s.draw k).short

-- the book's open draw's cash
abbrev pub draw_cash : Ledger → ℤ
draw_cash s = cash_drawn s.draw

-- the setters: nothing else writes a ledger out
abbrev pub with_accounts : Ledger → List Account → Ledger
with_accounts s xs = record { number = s.number; day = s.day; stage = s.stage; accounts = xs; futures = s.futures; options = s.options; requests = s.requests; draw = s.draw }

-- other futures
abbrev pub with_futures : Ledger → List (Option (Contract FutureTerms)) → Ledger
with_futures s xs = record { number = s.number; day = s.day; stage = s.stage; accounts = s.accounts; futures = xs; options = s.options; requests = s.requests; draw = s.draw }

-- other options
abbrev pub with_options : Ledger → List (Option (Contract OptionTerms)) → Ledger
with_options s xs = record { number = s.number; day = s.day; stage = s.stage; accounts = s.accounts; futures = s.futures; options = xs; requests = s.requests; draw = s.draw }

-- one account's cash is changed
abbrev pub with_cash : Ledger → ℕ → ℤ → Ledger
with_cash s a x = with_accounts s (slice_set s.accounts a (record { cash = x; holdings = (get_or s.accounts a no_account).holdings }))

-- one number gets a future, or an option
abbrev pub with_future : Ledger → ℕ → Contract FutureTerms → Ledger
with_future s k x = with_futures s (slice_set s.futures k (Some x))

-- the same of an option
abbrev pub with_option : Ledger → ℕ → Contract OptionTerms → Ledger
with_option s k x = with_options s (slice_set s.options (k - 4) (Some x))

-- an account with no cash and no lots
abbrev pub opened : Account
opened = record { cash = pos 0; holdings = record { rows = replicate 20 no_holding } }

-- a book as it is made: empty, on day 1, trading
unfoldable pub made : ℕ → Ledger
made n = record { number = n; day = 1; stage = Trading; accounts = replicate 32 opened; futures = replicate 4 None; options = replicate 16 None; requests = replicate 256 None; draw = None }
