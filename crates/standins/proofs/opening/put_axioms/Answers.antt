-- What is left to show of `put_axioms`: one assertion more.
use Rattle.std.proofs.Common.{◌∙◌, ◌++◌, List, ap}
use Rattle.mmsyntax.specs.declared.statement.Assertion.{Assertion}
use Rattle.standins.specs.StandIns.{axiom_as}
use Rattle.standins.specs.Views.{axiom_found}
use Rattle.standins.proofs.Gathered.{more_behind}
use Rattle.standins.proofs.opening.put_axioms.Goals as goal

pub loop-assertion-preserved : goal.loop-assertion-preserved
loop-assertion-preserved c =
    let xs = c.args.assertions.now in
    let a = c.assertion-item.result in
    let made = c.loop-assertion.made.items in
    let gives : Assertion → List Assertion = λ x. axiom_as x (axiom_found c.args.axioms.now x.label) in
    more_behind gives c.args.made.now.items made c.put_axiom.new.made.items xs c.loop-assertion.assertion-index a c.loop-assertion-test.true
    c.loop-assertion.invariant
    (c.in_ok-put_axiom.ensures
    ∙ ap (λ o. made ++ axiom_as a o) (c.text_for-cited.ensures ∙ ap (axiom_found c.args.axioms.now) c.as_slice.ensures)
    ∙ ap (λ x. made ++ gives x) c.assertion-item.is)
