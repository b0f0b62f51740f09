-- What the loop of `with_labels` keeps: the stand-ins so far.
use Rattle.std.proofs.Common.{◌≡◌, map, take, length}
use Rattle.std.specs.List.{zip}
use Rattle.source.specs.Views.{seen_pairs}
use Rattle.standins.specs.StandIns.{stand_in}
use Rattle.standins.specs.Views.{seen_stand_ins}
use Rattle.standins.proofs.standing.with_labels.Given as goal

abbrev pub invariant-loop-theorem : goal.invariant-loop-theorem
invariant-loop-theorem l =
    seen_stand_ins l.made.items ≡ map stand_in (take (length l.yielded) (zip (seen_pairs l.theorems) l.labels))
