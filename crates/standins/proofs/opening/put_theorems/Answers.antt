-- What is left to show of `put_theorems`: one assertion more.
use Rattle.std.proofs.Common.{◌∙◌, ◌++◌, ◌∷◌, [], map, take, get_or, sym, ap, ap₂, append_assoc}
use Rattle.std.proofs.lemmas.List.{map_more}
use Rattle.mmsyntax.specs.declared.statement.Assertion.{Assertion}
use Rattle.standins.specs.StandIns.{leaning}
use Rattle.standins.specs.Views.{axiom_found}
use Rattle.standins.proofs.opening.put_theorems.Goals as goal

pub loop-assertion-preserved : goal.loop-assertion-preserved
loop-assertion-preserved c =
    let xs = c.assertions-assertion-items.result.now in
    let a = c.assertion-item.result in
    let i = c.loop-assertion.assertion-index in
    let front = c.args.made.now.items in
    let found = axiom_found c.args.axioms.now in
    let gives : Assertion → Assertion = λ x. leaning c.args.database.now.prelude x (found x.label) in
    let is =
    c.in_ok-leaning.ensures
    ∙ ap (leaning c.args.database.now.prelude a) (c.text_for-cited.ensures ∙ ap found c.as_slice.ensures)
    ∙ ap gives c.assertion-item.is in
    c.in_ok-push.ensures.items
    ∙ ap₂ (λ ys y. ys ++ y ∷ []) c.loop-assertion.invariant is
    ∙ append_assoc front (map gives (take i xs)) (gives (get_or xs i a) ∷ [])
    ∙ ap (λ ys. front ++ ys) (sym (map_more gives xs i a c.loop-assertion-test.true))
