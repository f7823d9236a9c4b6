-- The making of a script's book, and what the whole script prints. Assumes nothing.
use Rattle.std.specs.Prelude.{ℕ, List, [], ◌∷◌, ◌++◌, ◌^◌, cond, Option, Ok, Err, Result, codes, nat_le}
use Rattle.std.specs.Io.KnownBytes.{Appends}
use Rattle.refusals.specs.declared.Refusal.{Refusal}
use Rattle.refusals.specs.declared.Refusal.TheVariants.{OutOfLimits}
use Rattle.refusals.specs.Words.{refusal_text}
use Rattle.margin.specs.AddOn.{added}
use Rattle.margin.specs.Flat.{flat}
use Rattle.margin.specs.Rules.{Rule}
use Rattle.margin.specs.Standard.{standard}
use Rattle.ledger.specs.Ledger.{made}
use Rattle.script.specs.declared.command.BaseRule.{BaseRule}
use Rattle.script.specs.declared.command.BaseRule.TheVariants as base
use Rattle.script.specs.declared.command.RuleName.{RuleName}
use Rattle.script.specs.declared.command.RuleName.TheVariants as name
use Rattle.script.specs.declared.command.Command.{Command}
use Rattle.script.specs.declared.command.Command.TheVariants as say
use Rattle.script.specs.declared.reading.Line.{Line}
use Rattle.rogbeku.specs.Commands.{all_printed}
use Rattle.rogbeku.specs.Lines.{line_of, tally_of}
use Rattle.rogbeku.specs.Tally.{Count, all_counted}

-- a number above its limit makes no rule
abbrev pub within : {A : Type 0} → ℕ → ℕ → A → Result A Refusal
within number most made = cond (nat_le number most) (Ok made) (Err (OutOfLimits 1))

-- a rule with no addition
abbrev pub base_rule : BaseRule → Result Rule Refusal
base_rule base.Standard = Ok standard
base_rule (base.Flat sum) = within sum (10 ^ 11) (flat sum)

-- an add-on is looked at after the rule below it
abbrev pub raised_by : ℕ → Result Rule Refusal → Result Rule Refusal
raised_by addition (Ok below) = within addition 10000 (added addition below)
raised_by addition (Err refusal) = Err refusal

-- the margin rule that a name means, or why there is none
abbrev pub rule_named : RuleName → Result Rule Refusal
rule_named (name.Base below) = base_rule below
rule_named (name.AddOn addition below) = raised_by addition (base_rule below)

-- a rule of the code by its meaning
abbrev pub meant : {R : Type 0} → (R → Rule) → Result R Refusal → Result Rule Refusal
meant meaning (Ok rule) = Ok (meaning rule)
meant meaning (Err refusal) = Err refusal

-- after the making of a book, and after its refusal
abbrev pub made_alone : Count
made_alone = record { done = 1; refused = 0 }

abbrev pub refused_alone : Count
refused_alone = record { done = 0; refused = 1 }

-- a count as the last line tells it
abbrev pub told_count : Count → List ℕ
told_count n = tally_of n.done n.refused

-- the line that makes a book, then its commands' lines, then the tally; where its rule is refused, that alone and its tally
abbrev pub opened : Result Rule Refusal → ℕ → ℕ → List Line → List ℕ
opened (Ok rule) line number lines = line_of line (codes "made") ++ all_printed rule (made number) lines ++ told_count (all_counted rule (made number) lines made_alone)
opened (Err refusal) line number lines = line_of line (refusal_text refusal) ++ told_count refused_alone

-- what a script adds to what is written; one that doesn't begin with its book adds nothing
abbrev pub Begins : Line → Command → List Line → Option (List ℕ) → Option (List ℕ) → Type 0
Begins line (say.Book number rule) lines old new = Appends old new (opened (rule_named rule) line.number number lines)
Begins line (say.Call slip order) lines old new = Appends old new []
Begins line (say.Ask question) lines old new = Appends old new []

-- and so a list of commands with their lines
abbrev pub Plays : List Line → Option (List ℕ) → Option (List ℕ) → Type 0
Plays [] old new = Appends old new []
Plays (line ∷ lines) old new = Begins line line.command lines old new
