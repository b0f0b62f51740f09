-- What the loop of `float_labels` keeps.
use Rattle.std.proofs.Common.{◌≡◌, map, take, codes}
use Rattle.std.specs.Prelude.{slice_index_or}
use Rattle.source.specs.Views.{seen_words}
use Rattle.sourcewriting.proofs.adding.float_labels.Given as goal

-- the labels of those that were gone through
abbrev pub invariant-loop-place : goal.invariant-loop-place
invariant-loop-place l =
    seen_words l.labels.items ≡ map (λ i. slice_index_or (seen_words l.names.floats.items) i (codes "?")) (take l.place-index l.floats)
