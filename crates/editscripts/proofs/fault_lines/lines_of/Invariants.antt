-- What the loop of `lines_of` keeps: the lines of the faults so far.
use Rattle.std.proofs.Common.{◌≡◌, map, take}
use Rattle.editscripts.specs.Faults.{line_of_fault}
use Rattle.editscripts.specs.Views.{seen_fault, seen_lines, seen_texts}
use Rattle.editscripts.proofs.fault_lines.lines_of.Given as goal

abbrev pub invariant-loop-fault : goal.invariant-loop-fault
invariant-loop-fault l =
    seen_lines l.lines.items
    ≡ map (line_of_fault (map (λ p. p.now) l.paths) (seen_texts l.texts)) (map seen_fault (take l.fault-index l.faults))
