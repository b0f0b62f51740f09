-- What the loop of `axiom_labels` keeps.
use Rattle.std.proofs.Common.{◌≡◌, map, take}
use Rattle.source.specs.Views.{seen_words}
use Rattle.sourceediting.specs.Axioms.{axiom_labels}
use Rattle.sourceediting.proofs.axioms.axiom_labels.Given as goal

-- those of the assertions so far
abbrev pub invariant-loop-entry : goal.invariant-loop-entry
invariant-loop-entry l = seen_words l.labels.items ≡ axiom_labels (map (λ r. r.assertion) (take l.entry-index l.entries))
