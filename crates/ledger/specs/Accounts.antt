-- The accounts of a book by number. Assumes nothing.
use Rattle.std.specs.Prelude.{ℕ, cond, Ok, Err, Result, nat_le}
use Rattle.refusals.specs.declared.Refusal.{Refusal}
use Rattle.refusals.specs.declared.Refusal.TheVariants.{NoSuch}

-- about an account: it is refused where there is none
abbrev pub of_account : {A : Type 0} → ℕ → A → Result A Refusal
of_account a x = cond (nat_le 32 a) (Err (NoSuch a)) (Ok x)

-- the account that a number names
abbrev pub numbered : ℕ → Result ℕ Refusal
numbered a = of_account a a
