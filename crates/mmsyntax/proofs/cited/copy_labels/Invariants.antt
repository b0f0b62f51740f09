use Rattle.std.proofs.Common.{◌≡◌, take}
use Rattle.mmsyntax.proofs.cited.copy_labels.Given as goal

abbrev pub invariant-loop-label : goal.invariant-loop-label
invariant-loop-label l = l.made.items ≡ take l.label-index l.labels
