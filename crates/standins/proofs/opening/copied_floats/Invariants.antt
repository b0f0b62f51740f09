-- What the loop of `copied_floats` keeps: the `$f` so far.
use Rattle.std.proofs.Common.{◌≡◌, take}
use Rattle.standins.proofs.opening.copied_floats.Given as goal

abbrev pub invariant-loop-float : goal.invariant-loop-float
invariant-loop-float l = l.copies.items ≡ take l.float-index l.floats
