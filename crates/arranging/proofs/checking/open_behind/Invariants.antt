use Rattle.std.proofs.Common.{◌≡◌, Some, take}
use Rattle.leaving.specs.Leaving.{open_behind}
use Rattle.arranging.proofs.checking.open_behind.Given as goal

abbrev pub invariant-loop-part : goal.invariant-loop-part
invariant-loop-part l = open_behind 0 (take l.part-index l.parts) ≡ Some l.depth
