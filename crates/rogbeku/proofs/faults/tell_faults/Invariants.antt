use Rattle.std.proofs.Common.{◌≡◌, ◌++◌, List, ℕ, drop}
use Rattle.std.specs.List.{flat_map}
use Rattle.std.specs.Io.KnownBytes.{Appends}
use Rattle.rogbeku.specs.Lines.{fault_line}
use Rattle.rogbeku.proofs.faults.tell_faults.Given as goal

abbrev pub invariant-loop-fault : goal.invariant-loop-fault
invariant-loop-fault g l =
    (so-far : List ℕ)
    × Appends (g.W.Write.contents l.initial.out) (g.W.Write.contents l.out) so-far
    × (flat_map fault_line l.faults ≡ so-far ++ flat_map fault_line (drop l.fault-index l.faults))
