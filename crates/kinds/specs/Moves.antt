-- A move of the price on a lot, as a difference of two lots' prices; so each kind keeps the law of kinds. Assumes nothing.
use Rattle.std.specs.Prelude.{◌≡◌, ℕ, zero, suc, ◌+◌, ◌*◌, ◌^◌, ◌≤◌, ℤ, pos, negsuc, ◌-ℤ◌, ◌*ℤ◌, neg_ℤ, unsigned_abs, refl}
use Rattle.std.proofs.Common.{ap, ◌∙◌, add-mul, arith}
use Rattle.std.proofs.lemmas.Int.{ints}
use Rattle.margin.specs.Laws.{lot_most}
use Rattle.kinds.specs.declared.terms.Holding.{Holding}
use Rattle.kinds.specs.Kinds.{Lawful, Within, moved, future_sums, option_sums}

by_sign : (a b m : ℕ) (z : ℤ) → pos a -ℤ pos b ≡ z → z *ℤ pos m ≡ pos (a * m) -ℤ pos (b * m)
by_sign a b m (pos k) e =
    let more : a ≡ b + k = omega (arith, ints) in
    let lots : a * m ≡ b * m + k * m = ap (λ n. n * m) more ∙ add-mul b k m in
    omega (arith, ints)
by_sign a b m (negsuc k) e =
    let less : b ≡ a + suc k = omega (arith, ints) in
    let lots : b * m ≡ a * m + suc k * m = ap (λ n. n * m) less ∙ add-mul a (suc k) m in
    omega (arith, ints)

moved_is : (m from to : ℕ) → moved m from to ≡ pos (to * m) -ℤ pos (from * m)
moved_is m from to = by_sign to from m (pos to -ℤ pos from) refl

apart : (m n most : ℕ) → m ≤ most → n ≤ most → unsigned_abs (pos m -ℤ pos n) ≤ most
apart m n most h k = grind (arith, ints)

moved_most : (units from to : ℕ) → Within units from to → unsigned_abs (moved units from to) ≤ 10 ^ 11
moved_most units from to w =
    let far = apart (to * units) (from * units) 99999999000 (lot_most to units w.other_most w.units_most) (lot_most from units w.price_most w.units_most) in
    rw (moved_is units from to) (omega (arith, far))

-- the size of a number below 0
pub abs_neg : (n : ℕ) → unsigned_abs (neg_ℤ (pos n)) ≡ n
abs_neg zero = refl
abs_neg (suc n) = refl

-- options keep the law of kinds
pub option_lawful : Lawful option_sums
option_lawful = record {
  settles = λ m p c d s. refl;
  still = λ m c. refl;
  entry_most = λ units price c w. rw (abs_neg (price * units)) (omega (arith, lot_most price units w.price_most w.units_most));
  mark_most = λ units c s w. omega arith;
  margin_most = λ rate h. omega (arith, add-mul h.long h.short rate);
}

-- and so do futures
pub future_lawful : Lawful future_sums
future_lawful = record {
  settles = λ m p c d s. (let pc = moved_is m p c in let cs = moved_is m c s in let pd = moved_is m p d in let ds = moved_is m d s in omega (arith, ints, pc, cs, pd, ds));
  still = λ m c. (let cc = moved_is m c c in omega (arith, ints, cc));
  entry_most = moved_most;
  mark_most = moved_most;
  margin_most = λ rate h. omega arith;
}

-- an option's margin is no less than its short lots at the rate
pub option_margin_least : (rate : ℕ) (h : Holding) → h.short * rate ≤ option_sums.margin rate h
option_margin_least rate h = omega arith
