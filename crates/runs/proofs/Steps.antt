-- What one call does to the book and to the journal. Assumes nothing.
use Rattle.std.proofs.Common.{◌≡◌, ℕ, ◌*◌, ◌<◌, ◌≤◌, true, false, cond, eqb, List, ◌∷◌, pos, ◌-ℤ◌, neg_ℤ, Some, None, Option, sym, refl, inl, inr, mul-le-mul_left, mul-zero, arith}
use Rattle.std.proofs.lemmas.Int.{ints}
use Rattle.std.proofs.lemmas.Bool.{cases_eq, cases_lt, eq-eqb, ne_eqb, lt-ltb, le-ltb}
use Rattle.std.proofs.lemmas.Bool.Decides.{nat_tests}
use Rattle.refusals.specs.declared.Refusal.{Refusal}
use Rattle.margin.specs.Rules.{Rule, Lawful}
use Rattle.ledger.specs.Ledger.{Ledger, short_of, holding_of, future_of, option_of, with_future, with_option}
use Rattle.ledger.specs.Funds.{all_cash, contract_margin, rate_of}
use Rattle.ledger.specs.Kept.{Sound, OptionKept, Covers}
use Rattle.ledger.specs.Calls.{after}
use Rattle.kinds.specs.declared.terms.Holding.{Holding}
use Rattle.ledger.specs.declared.records.Contract.{Contract}
use Rattle.kinds.specs.declared.terms.FutureTerms.{FutureTerms}
use Rattle.kinds.specs.declared.terms.OptionTerms.{OptionTerms}
use Rattle.ledger.proofs.Totals.{sum_to_mono}
use Rattle.ledger.proofs.Changes.{all_cash_moves, future_same, future_other, option_same, option_other}
use Rattle.session.specs.Cash.{deposited, withdrawn, deposit_refusal, withdrawal_refusal}
use Rattle.session.specs.Listings.{future_listed, option_listed, future_listing_refusal, option_listing_refusal, future_contract, option_contract, listed_future, asked_rate}
use Rattle.session.specs.declared.orders.Deposit.{Deposit}
use Rattle.session.specs.declared.orders.Withdrawal.{Withdrawal}
use Rattle.session.specs.declared.orders.FutureListing.{FutureListing}
use Rattle.session.specs.declared.orders.OptionListing.{OptionListing}
use Rattle.session.proofs.Cashing.{deposit_known, deposit_keeps, withdrawal_known, withdrawal_keeps}
use Rattle.session.proofs.Listing.{future_listable, future_listing_keeps, option_rows, option_listable, option_listing_keeps}
use Rattle.ledger.specs.declared.records.Slip.{Slip}
use Rattle.book.specs.Acts.{Act, depositing, withdrawing, listing_future, listing_option, stepped}
use Rattle.runs.specs.Journal.{noted}
use Rattle.runs.specs.Law.{Law, deposits, withdrawals, future_listing, option_listing, past, standing, units_of, lot_cost}

-- the ledger agrees with a future's listing in the journal
abbrev FutureAgrees : Option FutureListing → Option (Contract FutureTerms) → Type 0
FutureAgrees None x = Unit {0}
FutureAgrees (Some l) None = ⊥
FutureAgrees (Some l) (Some x) = x.terms.units ≡ l.units

-- and with an option's
abbrev OptionAgrees : Option OptionListing → Option (Contract OptionTerms) → Type 0
OptionAgrees None x = Unit {0}
OptionAgrees (Some l) None = ⊥
OptionAgrees (Some l) (Some x) = (x.carried ≡ l.price) × (x.terms.future ≡ l.future)

pub record Good (s : Ledger) (j : List Act) : Type 0 where
  pub sound : Sound s
  pub conserved : all_cash s ≡ pos (deposits j) -ℤ pos (withdrawals j)
  pub futures : (k : ℕ) → FutureAgrees (future_listing k j) (future_of s k)
  pub options : (k : ℕ) → OptionAgrees (option_listing k j) (option_of s k)
  pub lasting : (k : ℕ) → past k j ≡ false

-- ---- covered

-- a lot's cost in the units of the journal is no more than its rate
units_cost : (x : Contract OptionTerms) (l : Option FutureListing) (f : Option (Contract FutureTerms)) → FutureAgrees l f → Covers f x → x.carried * units_of l ≤ x.rate
units_cost x None f agrees covers = omega (arith, mul-zero x.carried)
units_cost x (Some l) None agrees covers = absurd agrees
units_cost x (Some l) (Some f) agrees covers = rw agrees at covers

lot_covered : (s : Ledger) (j : List Act) → Good s j → (o : Option OptionListing) (x : Option (Contract OptionTerms)) → OptionAgrees o x → OptionKept s x → lot_cost j o ≤ rate_of x
lot_covered s j g None x agrees kept = omega arith
lot_covered s j g (Some l) None agrees kept = absurd agrees
lot_covered s j g (Some l) (Some x) agrees kept =
    let future = g.futures x.terms.future in
    rw (sym agrees.0, sym agrees.1) (units_cost x (future_listing x.terms.future j) (future_of s x.terms.future) future kept.covers)

-- a holding's margin is no less than its short lots at the option's rate
margin_least : (s : Ledger) (k : ℕ) (h : Holding) → h.short * rate_of (option_of s k) ≤ contract_margin s k h
margin_least s k h = elim (cases_lt k 4) [
  | inl low ↦ rw (lt-ltb k 4 low) (omega (arith, mul-zero h.short))
  | inr high ↦ rw (le-ltb k 4 high) (omega arith)
]

covers : (s : Ledger) (j : List Act) → Good s j → (a k : ℕ) → k < 20 → short_of s a k * lot_cost j (standing k j) ≤ contract_margin s k (holding_of s a k)
covers s j g a k lt =
    let cost = lot_covered s j g (option_listing k j) (option_of s k) (g.options k) (g.sound.contracts.options k lt) in
    rw (g.lasting k) (omega (arith, mul-le-mul_left (short_of s a k) cost, margin_least s k (holding_of s a k)))

pub good_law : (s : Ledger) (j : List Act) → Good s j → Law j s
good_law s j g = record {
  balanced = g.sound.lots.balanced;
  gone = λ k h e. absurd (grind (arith, nat_tests, g.lasting k));
  conserved = g.conserved;
  covered = λ a h. sum_to_mono 20 _ _ (λ k lt. covers s j g a k lt);
}

-- ---- one call

abbrev Stepped : Rule → Ledger → List Act → Act → Type 0
Stepped rule s j x = Good (after s (stepped rule s x)) (noted x j (stepped rule s x))

deposit_step : (rule : Rule) (s : Ledger) (j : List Act) (slip : Slip) (d : Deposit) → Good s j → (o : Option Refusal) → deposit_refusal s slip d ≡ o → Stepped rule s j (depositing slip d)
unfolding deposited
deposit_step rule s j slip d g (Some r) e = rw e g
deposit_step rule s j slip d g None e =
    let moved = all_cash_moves s d.account (pos d.amount) g.sound.shape.accounts (deposit_known s slip d e).0 in
    rw e (record {
      sound = deposit_keeps s slip d g.sound e;
      conserved = omega (arith, ints, moved, g.conserved);
      futures = g.futures;
      options = g.options;
      lasting = g.lasting;
    })

withdrawal_step : (rule : Rule) (s : Ledger) (j : List Act) (slip : Slip) (w : Withdrawal) → Good s j → (o : Option Refusal) → withdrawal_refusal s slip w ≡ o → Stepped rule s j (withdrawing slip w)
unfolding withdrawn
withdrawal_step rule s j slip w g (Some r) e = rw e g
withdrawal_step rule s j slip w g None e =
    let moved = all_cash_moves s w.account (neg_ℤ (pos w.amount)) g.sound.shape.accounts (withdrawal_known s slip w e).0 in
    rw e (record {
      sound = withdrawal_keeps s slip w g.sound e;
      conserved = omega (arith, ints, moved, g.conserved);
      futures = g.futures;
      options = g.options;
      lasting = g.lasting;
    })

-- at the number listed the ledger agrees with the new listing, and elsewhere as before
future_agrees : (s : Ledger) (j : List Act) (slip : Slip) (l : FutureListing) (rate : ℕ) → Good s j → l.number < 4 → (k : ℕ) → FutureAgrees (future_listing k (listing_future slip l ∷ j)) (future_of (with_future s l.number (future_contract l rate)) k)
future_agrees s j slip l rate g lt k = elim (cases_eq l.number k) [
  | inl same ↦ rw (eq-eqb l.number k same) (rw (sym same) (rw (future_same s l.number (future_contract l rate) g.sound.shape.futures lt) refl))
  | inr other ↦ rw (ne_eqb l.number k other, future_other s l.number (future_contract l rate) k (λ e. other (sym e))) (g.futures k)
]

option_agrees : (s : Ledger) (j : List Act) (slip : Slip) (l : OptionListing) (rate : ℕ) → Good s j → 4 ≤ l.number → l.number < 20 → (k : ℕ) → OptionAgrees (option_listing k (listing_option slip l ∷ j)) (option_of (with_option s l.number (option_contract l rate)) k)
option_agrees s j slip l rate g least lt k = elim (cases_eq l.number k) [
  | inl same ↦ rw (eq-eqb l.number k same) (rw (sym same) (rw (option_same s l.number (option_contract l rate) g.sound.shape.options least lt) (refl, refl)))
  | inr other ↦ rw (ne_eqb l.number k other, option_other s l.number (option_contract l rate) k least (λ e. other (sym e))) (g.options k)
]

future_step : (rule : Rule) → Lawful rule → (s : Ledger) (j : List Act) (slip : Slip) (l : FutureListing) → Good s j → (o : Option Refusal) → future_listing_refusal s slip l ≡ o → Stepped rule s j (listing_future slip l)
unfolding future_listed
future_step rule lawful s j slip l g (Some r) e = rw e g
future_step rule lawful s j slip l g None e = rw e (record {
  sound = future_listing_keeps rule lawful s slip l g.sound e;
  conserved = g.conserved;
  futures = future_agrees s j slip l (rule.future_sum (listed_future l)) g (future_listable s slip l e).number_most;
  options = g.options;
  lasting = g.lasting;
})

option_step : (rule : Rule) → Lawful rule → (s : Ledger) (j : List Act) (slip : Slip) (l : OptionListing) → Good s j → (o : Option Refusal) → option_listing_refusal s slip l ≡ o → Stepped rule s j (listing_option slip l)
unfolding option_listed
option_step rule lawful s j slip l g (Some r) e = rw e g
option_step rule lawful s j slip l g None e =
    let known = option_listable s l (option_rows s slip l e) in
    rw e (record {
      sound = option_listing_keeps rule lawful s slip l g.sound e;
      conserved = g.conserved;
      futures = g.futures;
      options = option_agrees s j slip l (asked_rate rule (future_of s l.future) l) g known.number_least known.number_most;
      lasting = λ k. elim (eqb l.number k) as (λ b. cond b false (past k j) ≡ false) [ true ↦ refl | false ↦ g.lasting k ];
    })

pub step : (rule : Rule) → Lawful rule → (s : Ledger) (j : List Act) (x : Act) → Good s j → Stepped rule s j x
step rule lawful s j (depositing slip d) g = deposit_step rule s j slip d g (deposit_refusal s slip d) refl
step rule lawful s j (withdrawing slip w) g = withdrawal_step rule s j slip w g (withdrawal_refusal s slip w) refl
step rule lawful s j (listing_future slip l) g = future_step rule lawful s j slip l g (future_listing_refusal s slip l) refl
step rule lawful s j (listing_option slip l) g = option_step rule lawful s j slip l g (option_listing_refusal s slip l) refl
