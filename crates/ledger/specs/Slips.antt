-- Which slips a call takes. Assumes nothing.
use Rattle.std.specs.Prelude.{Bool, true, false, cond, not, ◌||◌, Ok, Err, Result, ◌==◌}
use Rattle.refusals.specs.declared.Refusal.{Refusal}
use Rattle.refusals.specs.declared.Refusal.TheVariants.{WrongSlip}
use Rattle.ledger.specs.Ledger.{Ledger}
use Rattle.ledger.specs.declared.records.Slip.{Slip}
use Rattle.ledger.specs.declared.records.Stage.{Stage}
use Rattle.ledger.specs.declared.records.Stage.TheVariants.{Trading, Cut, Draw}

-- a stage is itself and no other
abbrev pub same_stage : Stage → Stage → Bool
same_stage Trading Trading = true
same_stage Trading Cut = false
same_stage Trading Draw = false
same_stage Cut Trading = false
same_stage Cut Cut = true
same_stage Cut Draw = false
same_stage Draw Trading = false
same_stage Draw Cut = false
same_stage Draw Draw = true

-- the number, the day or the stage is not the one that the book now has, or the call takes slips of another stage
abbrev pub wrong_slip : Ledger → Slip → Stage → Bool
wrong_slip s slip taken = not (slip.number == s.number) || (not (slip.day == s.day) || (not (same_stage slip.stage s.stage) || not (same_stage slip.stage taken)))

-- a wrong slip is refused, and the place is the book number on it
abbrev pub admitted : Ledger → Slip → Stage → Result (Unit {0}) Refusal
admitted s slip taken = cond (wrong_slip s slip taken) (Err (WrongSlip slip.number)) (Ok tt)
