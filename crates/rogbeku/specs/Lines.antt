-- The lines that are printed. Assumes nothing.
use Rattle.std.specs.Prelude.{ℕ, List, ◌++◌, Some, Option, Ok, Err, Result, codes}
use Rattle.std.specs.Option.{option_map}
use Rattle.std.specs.Fmt.{decimal}
use Rattle.refusals.specs.declared.Refusal.{Refusal}
use Rattle.refusals.specs.Words.{refusal_text}
use Rattle.script.specs.Readings.{fault_text}
use Rattle.script.specs.declared.reading.Fault.{Fault}

-- a line of the script by its number, and what is told of it
abbrev pub line_of : ℕ → List ℕ → List ℕ
line_of line text = decimal line ++ codes " " ++ text ++ codes "\n"

-- an answer, where it is known how its value is printed, or the refusal
abbrev pub answered : {V : Type 0} → (V → Option (List ℕ)) → Result V Refusal → Option (List ℕ)
answered output (Ok value) = option_map (λ text. codes "is " ++ text) (output value)
answered output (Err refusal) = Some (refusal_text refusal)

-- what was carried out, and what was refused
abbrev pub tally_of : ℕ → ℕ → List ℕ
tally_of done refused = decimal done ++ codes " done, " ++ decimal refused ++ codes " refused\n"

-- a line that cannot be read, as it is told
abbrev pub fault_line : Fault → List ℕ
fault_line fault = fault_text fault ++ codes "\n"
