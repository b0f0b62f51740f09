-- What the loop of `descriptions_then` keeps: the descriptions of the assertions so far.
use Rattle.std.proofs.Common.{◌≡◌, take}
use Rattle.std.specs.Prelude.{filter_map}
use Rattle.source.specs.Views.{seen_pairs}
use Rattle.sourceediting.specs.Views.{seen_living}
use Rattle.dressing.specs.Descriptions.{description_then}
use Rattle.dressing.proofs.placing.descriptions_then.Given as goal

abbrev pub invariant-loop-followed : goal.invariant-loop-followed
invariant-loop-followed l =
    seen_pairs l.made.items
    ≡ filter_map (description_then l.descriptions) (seen_living (take l.followed-index l.followed-items))
