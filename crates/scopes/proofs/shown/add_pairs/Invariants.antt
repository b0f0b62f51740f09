-- What the loop of `add_pairs` keeps.
use Rattle.std.proofs.Common.{◌≡◌, ◌++◌, length}
use Rattle.source.specs.Scopes.{pairs_of}
use Rattle.source.specs.Views.{seen_words, seen_pairs}
use Rattle.scopes.proofs.shown.add_pairs.Given as goal

abbrev pub invariant-loop-left : goal.invariant-loop-left
invariant-loop-left l =
    seen_pairs l.pairs.items ++ pairs_of (seen_words l.left) ≡ seen_pairs l.initial.pairs.items ++ pairs_of (seen_words l.variables)

abbrev pub decreases-loop-left : goal.decreases-loop-left
decreases-loop-left l = length l.left
