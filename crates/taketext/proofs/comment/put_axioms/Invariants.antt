-- What the loop of `put_axioms` keeps.
use Rattle.std.proofs.Common.{◌≡◌, ◌++◌, map, take}
use Rattle.std.specs.List.{flat_map}
use Rattle.taketext.specs.Comments.{axiom_line}
use Rattle.taketext.proofs.comment.put_axioms.Given as goal

abbrev pub invariant-loop-pair : goal.invariant-loop-pair
invariant-loop-pair l = l.out.items ≡ l.initial.out.items ++ flat_map axiom_line (map (λ p. (p.0.now, p.1)) (take l.pair-index l.axioms))
