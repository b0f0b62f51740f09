-- What the loop of `axioms_of` keeps: the pairs so far.
use Rattle.std.proofs.Common.{◌≡◌, take}
use Rattle.source.specs.Views.{seen_pairs}
use Rattle.standins.specs.Views.{axiom_pairs, seen_stand_ins}
use Rattle.standins.proofs.opening.axioms_of.Given as goal

abbrev pub invariant-loop-stand_in : goal.invariant-loop-stand_in
invariant-loop-stand_in l = seen_pairs l.pairs.items ≡ axiom_pairs (seen_stand_ins (take l.stand_in-index l.stand_ins))
