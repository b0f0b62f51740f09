use Rattle.std.proofs.Common.{◌≡◌, Some, IfSome, take}
use Rattle.leaving.specs.Leaving.{open_behind}
use Rattle.arranging.specs.Places.{AreDepths}
use Rattle.arranging.proofs.checking.depths_of.Given as goal

abbrev pub invariant-loop-part : goal.invariant-loop-part
invariant-loop-part l = record {
  depths : AreDepths (take l.part-index l.parts) l.depths.items;
  now : IfSome l.depth (λ d. open_behind 0 (take l.part-index l.parts) ≡ Some d);
}
