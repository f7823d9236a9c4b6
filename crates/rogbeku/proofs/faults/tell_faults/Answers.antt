use Rattle.std.proofs.Common.{◌+◌, ◌++◌, get_or, drop, sym, ap, ◌∙◌, append_assoc}
use Rattle.std.specs.List.{flat_map}
use Rattle.std.proofs.lemmas.List.{at_drop_more}
use Rattle.words.specs.declared.unreadable.Unreadable.TheVariants.{UnknownWord}
use Rattle.script.specs.declared.reading.Fault.{Fault}
use Rattle.rogbeku.specs.Lines.{fault_line}
use Rattle.rogbeku.proofs.Printing.{appends_more}
use Rattle.rogbeku.proofs.faults.tell_faults.Goals as goal

-- the fault that the checker writes for a place outside the list
abbrev no_fault : Fault
no_fault = record { line = 0; why = UnknownWord }

pub loop-fault-preserved : goal.loop-fault-preserved
loop-fault-preserved g c =
    let faults = c.args.faults.now in
    let i = c.loop-fault.fault-index in
    let text = fault_line (get_or faults i no_fault) in
    let inv = c.loop-fault.invariant in
    let next = at_drop_more (flat_map fault_line) faults i no_fault c.loop-fault-test.true in
    (inv.0 ++ text, appends_more _ _ _ _ _ inv.1 c.in_ok-writeln.ensures.bytes, inv.2 ∙ ap (λ l. inv.0 ++ l) next ∙ sym (append_assoc inv.0 text (flat_map fault_line (drop (i + 1) faults))))
