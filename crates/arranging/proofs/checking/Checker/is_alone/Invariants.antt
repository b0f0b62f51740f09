use Rattle.std.proofs.Common.{◌≡◌, [], ◌∷◌, cond, take}
use Rattle.std.specs.List.{flat_map}
use Rattle.arranging.proofs.Known.{label_in}
use Rattle.arranging.proofs.checking.Checker.is_alone.Given as goal

abbrev pub invariant-loop-item : goal.invariant-loop-item
invariant-loop-item l = flat_map label_in (take l.item-index l.items) ≡ cond l.is_found (l.label ∷ []) []
