use Rattle.std.proofs.Common.{◌≡◌, length}
use Rattle.plaincells.specs.Plain.{undone, IsLogOf}
use Rattle.plaincells.proofs.plain.give_back.Given as goal

abbrev pub invariant-loop-cell : goal.invariant-loop-cell
invariant-loop-cell l = (undone l.values l.log.items ≡ undone l.initial.values l.initial.log.items) × IsLogOf (length l.values) l.log.items

abbrev pub decreases-loop-cell : goal.decreases-loop-cell
decreases-loop-cell l = goal.left-loop-cell l
