-- What the loop of `labels_then` keeps: the labels of the assertions so far.
use Rattle.std.proofs.Common.{◌≡◌, map, take}
use Rattle.std.specs.Prelude.{filter_map}
use Rattle.pasting.specs.Views.{seen_given_labels}
use Rattle.sourceediting.specs.Views.{seen_living}
use Rattle.dressing.specs.OwnWords.{premises_then}
use Rattle.dressing.proofs.labelled.labels_then.Given as goal

abbrev pub invariant-loop-followed : goal.invariant-loop-followed
invariant-loop-followed l =
    map seen_given_labels l.made.items
    ≡ filter_map (premises_then (map seen_given_labels l.given)) (seen_living (take l.followed-index l.followed-items))
