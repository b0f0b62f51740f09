-- What the loop of `told` keeps: the labels so far.
use Rattle.std.proofs.Common.{◌≡◌, map, take}
use Rattle.source.specs.Views.{seen_words}
use Rattle.standins.proofs.standing.told.Given as goal

abbrev pub invariant-loop-one : goal.invariant-loop-one
invariant-loop-one l = seen_words l.labels.items ≡ map (λ a. a.0.now) (take l.one-index l.axioms)
