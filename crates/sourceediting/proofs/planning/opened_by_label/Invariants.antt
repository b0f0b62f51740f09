-- What the loop of `opened_by_label` keeps.
use Rattle.sourceediting.specs.Views.{AreLabelled}
use Rattle.sourceediting.proofs.planning.opened_by_label.Given as goal

-- what is found is one of the assertions
abbrev pub invariant-loop-assertion : goal.invariant-loop-assertion
invariant-loop-assertion l = AreLabelled l.found l.assertions
