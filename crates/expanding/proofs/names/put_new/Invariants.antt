-- What the loop of `put_new` keeps: the new labels of the renames so far.
use Rattle.std.proofs.Common.{◌≡◌, ◌++◌, map, take}
use Rattle.source.specs.Views.{seen_words, seen_pairs}
use Rattle.expanding.proofs.names.put_new.Given as goal

abbrev pub invariant-loop-new : goal.invariant-loop-new
invariant-loop-new l = seen_words l.words.items ≡ seen_words l.fn.words.items ++ map (λ r. r.1) (seen_pairs (take l.new-index l.pairs))
