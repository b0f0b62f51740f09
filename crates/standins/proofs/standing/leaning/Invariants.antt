-- What the loop of `leaning` keeps: the labels so far.
use Rattle.std.proofs.Common.{◌≡◌, take}
use Rattle.std.specs.Prelude.{filter_map}
use Rattle.source.specs.Views.{seen_pairs}
use Rattle.sourceediting.specs.Views.{seen_living}
use Rattle.standins.specs.Views.{leaning_pair}
use Rattle.standins.proofs.standing.leaning.Given as goal

abbrev pub invariant-loop-followed : goal.invariant-loop-followed
invariant-loop-followed l =
    seen_pairs l.found.items ≡ filter_map (leaning_pair l.told l.reproved) (seen_living (take l.followed-index l.living))
