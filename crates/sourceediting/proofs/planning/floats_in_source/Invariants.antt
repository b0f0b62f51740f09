-- What the loop of `floats_in_source` keeps.
use Rattle.std.proofs.Common.{◌≡◌, map, take}
use Rattle.source.specs.Views.{seen_words}
use Rattle.giving.specs.Staying.{changed}
use Rattle.sourceediting.proofs.planning.floats_in_source.Given as goal

-- the labels of those that were gone through
abbrev pub invariant-loop-float : goal.invariant-loop-float
invariant-loop-float l = seen_words l.labels.items ≡ map (λ f. changed l.changes f.label) (take l.float-index l.floats)
