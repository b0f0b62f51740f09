-- What the loop of `labels_then` keeps.
use Rattle.std.proofs.Common.{◌≡◌, map, take}
use Rattle.source.specs.Views.{seen_words}
use Rattle.sourceediting.specs.Following.{label_then}
use Rattle.sourceediting.specs.Views.{seen_living}
use Rattle.sourceediting.proofs.following.Following.labels_then.Given as goal

-- the labels so far
abbrev pub invariant-loop-followed : goal.invariant-loop-followed
invariant-loop-followed l = seen_words l.labels.items ≡ map label_then (seen_living (take l.followed-index l.followed-items))
