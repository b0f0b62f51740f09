-- What the loop of `first_changes` keeps.
use Rattle.std.proofs.Common.{take}
use Rattle.source.specs.Views.{seen_pairs}
use Rattle.giving.specs.Changes.{FindsChanges}
use Rattle.giving.proofs.label_map.first_changes.Given as goal

-- the map finds the changes so far
abbrev pub invariant-loop-old : goal.invariant-loop-old
invariant-loop-old l = FindsChanges l.labels (seen_pairs (take l.old-index l.pairs))
