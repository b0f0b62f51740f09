-- What the loop of `marked` keeps.
use Rattle.std.proofs.Common.{◌≡◌, take}
use Rattle.source.specs.Views.{seen_words, seen_pairs}
use Rattle.sourceediting.specs.Marked.{marked}
use Rattle.sourceediting.proofs.citing.marked.Given as goal

-- the labels so far
abbrev pub invariant-loop-label : goal.invariant-loop-label
invariant-loop-label l = seen_pairs l.pairs.items ≡ marked (seen_words (take l.label-index l.labels))
