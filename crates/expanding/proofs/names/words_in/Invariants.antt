-- What the loop of `words_in` keeps: the old labels of the renames so far.
use Rattle.std.proofs.Common.{◌≡◌, map, take}
use Rattle.source.specs.Views.{seen_words, seen_pairs}
use Rattle.expanding.proofs.names.words_in.Given as goal

abbrev pub invariant-loop-old : goal.invariant-loop-old
invariant-loop-old l = seen_words l.words.items ≡ map (λ r. r.0) (seen_pairs (take l.old-index l.pairs))
