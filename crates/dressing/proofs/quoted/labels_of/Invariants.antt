-- What the loop of `labels_of` keeps: the labels so far.
use Rattle.std.proofs.Common.{◌≡◌, map, take}
use Rattle.source.specs.Views.{seen_words}
use Rattle.dressing.proofs.quoted.labels_of.Given as goal

abbrev pub invariant-loop-one : goal.invariant-loop-one
invariant-loop-one l = seen_words l.labels.items ≡ map (λ q. q.label.now) (take l.one-index l.given)
