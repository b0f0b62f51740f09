use Rattle.std.proofs.Common.{ℕ, map, take}
use Rattle.std.specs.Ordering.{nat_cmp}
use Rattle.std.specs.BTreeMap.{get}
use Rattle.mmframes.specs.Places.{IsFirstPlace}
use Rattle.mmframes.proofs.substitution.places_of.Given as goal

abbrev pub invariant-loop-i : goal.invariant-loop-i
invariant-loop-i l = (v : ℕ) → IsFirstPlace (map (λ p. p.0) (take l.i l.pairs)) v (get nat_cmp l.places v)
