-- What the loop of `walk_over` keeps.
use Rattle.sourceediting.specs.Views.{seen_living, HasKnown}
use Rattle.sourceediting.proofs.moving.walk_over.Given as goal

-- those that were met so far live
abbrev pub invariant-loop-entry : goal.invariant-loop-entry
invariant-loop-entry l = HasKnown (seen_living l.edits.planned.living.now) l.walk
