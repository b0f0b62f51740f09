use Rattle.std.proofs.Common.{◌≡◌, map, take}
use Rattle.mmsyntax.specs.ProofWords.{replacing}
use Rattle.mmsyntax.proofs.cited.replaced_labels.Given as goal

abbrev pub invariant-loop-label : goal.invariant-loop-label
invariant-loop-label l = l.made.items ≡ map (replacing l.old l.new) (take l.label-index l.labels)
