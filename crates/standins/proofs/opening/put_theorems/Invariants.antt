-- What the loop of `put_theorems` keeps: the assertions so far.
use Rattle.std.proofs.Common.{◌≡◌, ◌++◌, map, take}
use Rattle.standins.specs.StandIns.{leaning}
use Rattle.standins.specs.Views.{axiom_found}
use Rattle.standins.proofs.opening.put_theorems.Given as goal

abbrev pub invariant-loop-assertion : goal.invariant-loop-assertion
invariant-loop-assertion l =
    l.made.items
    ≡ l.fn.made.items
    ++ map (λ a. leaning l.database.prelude a (axiom_found l.axioms a.label)) (take l.assertion-index l.assertion-items)
