-- What each setter changes, what it leaves, and that it keeps the invariant. Assumes nothing.
use Rattle.std.proofs.Common.{◌≡◌, ℕ, ◌-◌, ◌<◌, ◌≤◌, cond, ltb, length, get_or, ℤ, ◌+ℤ◌, Some, None, Option, refl, ap, inl, inr, arith, length-set, get_or-set_other, get_or-set_same}
use Rattle.std.proofs.lemmas.Bool.{cases_eq, cases_lt, lt-ltb, le-ltb}
use Rattle.ledger.specs.Ledger.{Ledger, no_account, cash_of, holding_of, long_of, short_of, future_of, option_of, future_under, with_cash, with_future, with_option}
use Rattle.ledger.specs.Funds.{InRange, all_cash}
use Rattle.ledger.specs.Kept.{FutureSound, Covers, OptionSound, OptionKept, Even, Sound}
use Rattle.ledger.specs.declared.records.Account.{Account}
use Rattle.kinds.specs.declared.terms.Holding.{Holding}
use Rattle.ledger.specs.declared.records.Contract.{Contract}
use Rattle.kinds.specs.declared.terms.FutureTerms.{FutureTerms}
use Rattle.kinds.specs.declared.terms.OptionTerms.{OptionTerms}
use Rattle.std.proofs.lemmas.Int.{ints}
use Rattle.ledger.proofs.Totals.{sum_to_same, total_to_changed}

-- a listed option stays sound in another ledger of the same day whose futures read the same
same_terms : (s t : Ledger) (o : Option (Contract OptionTerms)) → t.day ≡ s.day → ((j : ℕ) → future_of t j ≡ future_of s j) → OptionKept s o → OptionKept t o
same_terms s t None day same h = tt
same_terms s t (Some x) day same h = record {
  within = h.within;
  tick_least = h.tick_least;
  tick_most = h.tick_most;
  lasts = rw day h.lasts;
  last_most = h.last_most;
  rate_most = h.rate_most;
  covers = rw (same x.terms.future) h.covers;
}

-- long and short lots stay even where every holding and the open draw stay
even_same : (s t : Ledger) (k : ℕ) → ((b : ℕ) → holding_of t b k ≡ holding_of s b k) → t.draw ≡ s.draw → Even s k → Even t k
even_same s t k same draw even =
    let long = sum_to_same 32 (λ b. long_of t b k) (λ b. long_of s b k) (λ b l. ap (λ (y : Holding). y.long) (same b)) in
    let short = sum_to_same 32 (λ b. short_of t b k) (λ b. short_of s b k) (λ b l. ap (λ (y : Holding). y.short) (same b)) in
    rw (long, short, draw) even

-- ---- one account's cash

pub cash_same : (s : Ledger) (a : ℕ) (x : ℤ) → a < length s.accounts → cash_of (with_cash s a x) a ≡ x
cash_same s a x lt = ap (λ (y : Account). y.cash) (get_or-set_same s.accounts a _ no_account lt)

pub cash_other : (s : Ledger) (a : ℕ) (x : ℤ) (b : ℕ) → (b ≡ a → ⊥) → cash_of (with_cash s a x) b ≡ cash_of s b
cash_other s a x b other = ap (λ (y : Account). y.cash) (get_or-set_other s.accounts a b _ no_account other)

pub holdings_stay : (s : Ledger) (a : ℕ) (x : ℤ) (b : ℕ) → a < length s.accounts → (get_or (with_cash s a x).accounts b no_account).holdings ≡ (get_or s.accounts b no_account).holdings
holdings_stay s a x b lt = elim (cases_eq b a) [
  | inl same ↦ rw same (ap (λ (y : Account). y.holdings) (get_or-set_same s.accounts a _ no_account lt))
  | inr other ↦ ap (λ (y : Account). y.holdings) (get_or-set_other s.accounts a b _ no_account other)
]

pub holding_stays : (s : Ledger) (a : ℕ) (x : ℤ) (b k : ℕ) → a < length s.accounts → holding_of (with_cash s a x) b k ≡ holding_of s b k
holding_stays s a x b k lt = rw (holdings_stay s a x b lt) refl

pub keep_cash : (s : Ledger) (a : ℕ) (x : ℤ) → Sound s → a < 32 → InRange x → Sound (with_cash s a x)
keep_cash s a x h lt in_range =
    let within : a < length s.accounts = omega (arith, h.shape.accounts) in
    record {
      shape = record {
        accounts = simp length-set h.shape.accounts;
        holdings = λ b g. rw (holdings_stay s a x b within) (h.shape.holdings b g);
        futures = h.shape.futures;
        options = h.shape.options;
        requests = h.shape.requests;
      };
      contracts = record { futures = h.contracts.futures; options = λ k g. same_terms s (with_cash s a x) (option_of s k) refl (λ j. refl) (h.contracts.options k g) };
      cash = record { in_range = λ b g. elim (cases_eq b a) [ inl same ↦ rw same (rw (cash_same s a x within) in_range) | inr other ↦ rw (cash_other s a x b other) (h.cash.in_range b g) ] };
      lots = record {
        balanced = λ k g. even_same s (with_cash s a x) k (λ b. holding_stays s a x b k within) refl (h.lots.balanced k g);
      };
    }

-- ---- a future

pub future_same : (s : Ledger) (k : ℕ) (x : Contract FutureTerms) → length s.futures ≡ 4 → k < 4 → future_of (with_future s k x) k ≡ Some x
future_same s k x n lt = rw (lt-ltb k 4 lt) (get_or-set_same s.futures k (Some x) None (omega arith))

pub future_other : (s : Ledger) (k : ℕ) (x : Contract FutureTerms) (j : ℕ) → (j ≡ k → ⊥) → future_of (with_future s k x) j ≡ future_of s j
future_other s k x j other = ap (λ y. cond (ltb j 4) y None) (get_or-set_other s.futures k j (Some x) None other)

-- ---- an option

pub option_same : (s : Ledger) (k : ℕ) (x : Contract OptionTerms) → length s.options ≡ 16 → 4 ≤ k → k < 20 → option_of (with_option s k x) k ≡ Some x
option_same s k x n least lt = rw (le-ltb k 4 least, lt-ltb k 20 lt) (get_or-set_same s.options (k - 4) (Some x) None (omega arith))

pub option_other : (s : Ledger) (k : ℕ) (x : Contract OptionTerms) (j : ℕ) → 4 ≤ k → (j ≡ k → ⊥) → option_of (with_option s k x) j ≡ option_of s j
option_other s k x j least other = elim (cases_lt j 4) [
  | inl low ↦ rw (lt-ltb j 4 low) refl
  | inr high ↦ rw (le-ltb j 4 high) (ap (λ y. cond (ltb j 20) y None) (get_or-set_other s.options (k - 4) (j - 4) (Some x) None (λ e. other (omega arith))))
]

-- a number that gets a future had none, so no listed option was on it
still_covers : (s : Ledger) (k : ℕ) (x : Contract FutureTerms) (o : Contract OptionTerms) → future_of s k ≡ None → Covers (future_under s (Some o)) o → Covers (future_under (with_future s k x) (Some o)) o
still_covers s k x o free h = elim (cases_eq o.terms.future k) [
  | inl same ↦ absurd (rw (same, free) at h)
  | inr other ↦ rw (future_other s k x o.terms.future other) h
]

still_sound : (s : Ledger) (k : ℕ) (x : Contract FutureTerms) (o : Option (Contract OptionTerms)) → future_of s k ≡ None → OptionKept s o → OptionKept (with_future s k x) o
still_sound s k x None free h = tt
still_sound s k x (Some o) free h = record {
  within = h.within;
  tick_least = h.tick_least;
  tick_most = h.tick_most;
  lasts = h.lasts;
  last_most = h.last_most;
  rate_most = h.rate_most;
  covers = still_covers s k x o free h.covers;
}

pub keep_future : (s : Ledger) (k : ℕ) (x : Contract FutureTerms) → Sound s → k < 4 → future_of s k ≡ None → FutureSound x → Sound (with_future s k x)
keep_future s k x h lt free sound = record {
  shape = record { accounts = h.shape.accounts; holdings = h.shape.holdings; futures = simp length-set h.shape.futures; options = h.shape.options; requests = h.shape.requests };
  contracts = record {
    futures = λ j g. elim (cases_eq j k) [ inl same ↦ rw same (rw (future_same s k x h.shape.futures lt) sound) | inr other ↦ rw (future_other s k x j other) (h.contracts.futures j g) ];
    options = λ j g. still_sound s k x (option_of s j) free (h.contracts.options j g);
  };
  cash = record { in_range = h.cash.in_range };
  lots = record { balanced = h.lots.balanced };
}

pub keep_option : (s : Ledger) (k : ℕ) (x : Contract OptionTerms) → Sound s → 4 ≤ k → k < 20 → OptionSound s x → Sound (with_option s k x)
keep_option s k x h least lt sound =
    let moved = λ (o : Option (Contract OptionTerms)). same_terms s (with_option s k x) o refl (λ j. refl) in
    record {
      shape = record { accounts = h.shape.accounts; holdings = h.shape.holdings; futures = h.shape.futures; options = simp length-set h.shape.options; requests = h.shape.requests };
      contracts = record {
        futures = h.contracts.futures;
        options = λ j g. elim (cases_eq j k) [ inl same ↦ rw same (rw (option_same s k x h.shape.options least lt) (moved (Some x) sound)) | inr other ↦ rw (option_other s k x j least other) (moved (option_of s j) (h.contracts.options j g)) ];
      };
      cash = record { in_range = h.cash.in_range };
      lots = record { balanced = h.lots.balanced };
    }

-- all cash moves by what one account's moves
pub all_cash_moves : (s : Ledger) (a : ℕ) (d : ℤ) → length s.accounts ≡ 32 → a < 32 → all_cash (with_cash s a (cash_of s a +ℤ d)) ≡ all_cash s +ℤ d
all_cash_moves s a d n lt =
    let t = with_cash s a (cash_of s a +ℤ d) in
    let changed = total_to_changed 32 (cash_of s) (cash_of t) a d lt (cash_same s a _ (omega arith)) (λ k other. cash_other s a _ k other) in
    omega (arith, ints, changed)
