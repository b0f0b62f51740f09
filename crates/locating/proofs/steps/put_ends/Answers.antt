-- What is left to show of `put_ends`.
use Rattle.std.proofs.Common.{◌∙◌, ◌++◌, ◌∷◌, [], ap, sym}
use Rattle.locating.specs.declared.steps.Ending.{Ending}
use Rattle.locating.proofs.Ended.{ends_here, ends_not_here}
use Rattle.locating.proofs.steps.put_ends.Goals as goal
use Rattle.locating.proofs.steps.put_ends.Goals.{then-ends_step+in_ok-push, else-ends_step}

pub loop-at-preserved : goal.loop-at-preserved
loop-at-preserved c =
    let place = c.args.token.place in
    let text = c.args.token.text.now in
    let at = c.loop-at.at in
    let old = c.args.ends.now.items in
    let step : Ending = record { word = place; behind = at; length = 1 } in
    elim c.if-ends_step.branch [
      | then-ends_step+in_ok-push w ↦ ap (λ v. v.items) w.ends-is ∙ w.in_ok-push.ensures.items
          ∙ ap (λ es. es ++ step ∷ []) c.loop-at.invariant
          ∙ ends_here place text at c.loop-at-test.true 0 old (sym c.ends_step.ensures ∙ w.if-ends_step.true)
      | else-ends_step w ↦ ap (λ v. v.items) w.ends-is ∙ c.loop-at.invariant
          ∙ ends_not_here place text at c.loop-at-test.true 0 old (sym c.ends_step.ensures ∙ w.if-ends_step.false)
    ]
