-- What the loop of `put_axioms` keeps: the axioms so far.
use Rattle.std.proofs.Common.{◌≡◌, ◌++◌, take}
use Rattle.std.specs.List.{flat_map}
use Rattle.standins.specs.StandIns.{axiom_as}
use Rattle.standins.specs.Views.{axiom_found}
use Rattle.standins.proofs.opening.put_axioms.Given as goal

abbrev pub invariant-loop-assertion : goal.invariant-loop-assertion
invariant-loop-assertion l =
    l.made.items
    ≡ l.fn.made.items ++ flat_map (λ a. axiom_as a (axiom_found l.axioms a.label)) (take l.assertion-index l.assertions)
