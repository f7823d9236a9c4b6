use Rattle.std.proofs.Common.{◌≡◌, map}
use Rattle.script.specs.Readings.{read_by, nothing_yet, read_on}
use Rattle.script.proofs.Parts.{line_of}
use Rattle.script.proofs.reading.script.Given as goal

-- what the lines so far lead to
abbrev pub invariant-loop-index : goal.invariant-loop-index
invariant-loop-index l = read_by l.reader ≡ read_on 0 nothing_yet (map line_of l.yielded)
