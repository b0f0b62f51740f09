-- What the loop of `old_labels` keeps: the old labels of the changes so far.
use Rattle.std.proofs.Common.{◌≡◌, map, take}
use Rattle.source.specs.Views.{seen_pairs, seen_words}
use Rattle.mentions.proofs.vanished.old_labels.Given as goal

abbrev pub invariant-loop-change : goal.invariant-loop-change
invariant-loop-change l = seen_words l.labels.items ≡ map (λ c. c.0) (seen_pairs (take l.change-index l.changes))
