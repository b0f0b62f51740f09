-- What the loop of `next_of` keeps: what the renames so far make of each label.
use Rattle.std.proofs.Common.{take}
use Rattle.source.specs.Views.{seen_pairs}
use Rattle.expanding.specs.Bearing.{FindsNew}
use Rattle.expanding.proofs.renamed.next_of.Given as goal

abbrev pub invariant-loop-old : goal.invariant-loop-old
invariant-loop-old l = FindsNew l.next (seen_pairs (take l.old-index l.pairs))
