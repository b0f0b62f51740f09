-- What the loop of `add_pairs_with` keeps.
use Rattle.std.proofs.Common.{◌≡◌, ◌++◌, map, take}
use Rattle.source.specs.Views.{seen_words, seen_pairs}
use Rattle.scopes.proofs.shown.add_pairs_with.Given as goal

abbrev pub invariant-loop-other : goal.invariant-loop-other
invariant-loop-other l =
    seen_pairs l.pairs.items ≡ seen_pairs l.initial.pairs.items ++ map (λ w. (l.variable, w)) (seen_words (take l.other-index l.others))
