-- What the loop of `labels_among` keeps.
use Rattle.std.proofs.Common.{◌≡◌, map, take}
use Rattle.std.specs.Prelude.{filter_map}
use Rattle.source.specs.Views.{seen_words}
use Rattle.sourceediting.specs.Axioms.{axiom_label}
use Rattle.sourceediting.specs.Views.{seen_living}
use Rattle.sourceediting.proofs.axioms.labels_among.Given as goal

-- those of the assertions so far
abbrev pub invariant-loop-followed : goal.invariant-loop-followed
invariant-loop-followed l =
    seen_words l.found.items ≡ filter_map (axiom_label (map (λ c. c.0) l.axioms)) (seen_living (take l.followed-index l.living))
