-- What the loop of `told_of` keeps.
use Rattle.std.proofs.Common.{◌≡◌, map, take}
use Rattle.source.specs.Views.{seen_pairs}
use Rattle.sourceediting.specs.Marked.{marked}
use Rattle.secondlook.proofs.own.told_of.Given as goal

-- the labels so far
abbrev pub invariant-loop-label : goal.invariant-loop-label
invariant-loop-label l = seen_pairs l.pairs.items ≡ marked (map (λ p. p.0.now) (take l.label-index l.axioms))
