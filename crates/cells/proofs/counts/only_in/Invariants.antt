use Rattle.std.proofs.Common.{◌≡◌, take}
use Rattle.std.specs.Prelude.{filter}
use Rattle.cells.proofs.Citing.{is_outside}
use Rattle.cells.proofs.counts.only_in.Given as goal

abbrev pub invariant-loop-slot : goal.invariant-loop-slot
invariant-loop-slot l = l.only.items ≡ filter (is_outside l.others) (take l.slot-index l.slots)
