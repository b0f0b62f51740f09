-- What the loop of `pairs_of` keeps: the pairs so far.
use Rattle.std.proofs.Common.{◌≡◌, map, take}
use Rattle.source.specs.Views.{seen_words, seen_pairs}
use Rattle.expanding.proofs.labels.pairs_of.Given as goal

abbrev pub invariant-loop-label : goal.invariant-loop-label
invariant-loop-label l = seen_pairs l.pairs.items ≡ map (λ w. (w, w)) (seen_words (take l.label-index l.labels))
