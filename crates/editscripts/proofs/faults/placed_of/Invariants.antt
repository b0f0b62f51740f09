-- What the loop of `placed_of` keeps: the faults so far.
use Rattle.std.proofs.Common.{map, take}
use Rattle.editscripts.specs.Gathered.{IsPlaced}
use Rattle.editscripts.specs.Views.{seen_fault}
use Rattle.editscripts.proofs.faults.placed_of.Given as goal

abbrev pub invariant-loop-fault : goal.invariant-loop-fault
invariant-loop-fault l = IsPlaced (map seen_fault (take l.fault-index l.faults)) l.placed
