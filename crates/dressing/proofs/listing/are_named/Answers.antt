-- What is left to show of `are_named`.
use Rattle.std.proofs.Common.{◌≡◌, ◌∙◌, [], ℕ, List, take, get_or, sym, ap, Bor}
use mathlib.Core.Bool.{not}
use Rattle.prooftrees.specs.Roles.{looks_up}
use Rattle.dressing.specs.Quoted.{is_unnamed}
use Rattle.dressing.proofs.Naming.{by_role, by_front, one_passes, none_passes}
use Rattle.dressing.proofs.listing.are_named.Goals as goal
use Rattle.dressing.proofs.listing.are_named.Goals.{then-have, else-have}

pub returns-then-not-is_in_front : goal.returns-then-not-is_in_front
returns-then-not-is_in_front g c = λ x are.
    let earlier = take c.args.place (g.D.Declared.scope c.args.declared.now).assertions in
    let labels = c.args.labels.now in
    let i = c.loop-label.label-index in
    let d : Bor (List ℕ) = record { ref_ptr = (0, 0); now = [] } in
    let roles = looks_up c.args.roles.now.roles in
    let w = (get_or labels i d).now in
    let test = is_unnamed earlier x in
    let is : test w ≡ not c.if-have.value = (
    elim c.if-have.branch [
      | then-have v ↦ by_role earlier x roles are w c.if-have.value (v.value-is ∙ v.if-have.true) (sym c.have.ensures ∙ v.if-have.true)
      | else-have v ↦
          by_front earlier x roles are w c.if-have.value v.is_in_front.result v.value-is (sym c.have.ensures ∙ v.if-have.false)
          v.is_in_front.ensures
    ]
    ) in
    ap not (sym (one_passes test labels i d c.loop-label-test.true (is ∙ ap not c.if-not-is_in_front.true)))

pub loop-label-preserved : goal.loop-label-preserved
loop-label-preserved g c = λ x are.
    let earlier = take c.args.place (g.D.Declared.scope c.args.declared.now).assertions in
    let labels = c.args.labels.now in
    let i = c.loop-label.label-index in
    let d : Bor (List ℕ) = record { ref_ptr = (0, 0); now = [] } in
    let roles = looks_up c.args.roles.now.roles in
    let w = (get_or labels i d).now in
    let test = is_unnamed earlier x in
    let is : test w ≡ not c.if-have.value = (
    elim c.if-have.branch [
      | then-have v ↦ by_role earlier x roles are w c.if-have.value (v.value-is ∙ v.if-have.true) (sym c.have.ensures ∙ v.if-have.true)
      | else-have v ↦
          by_front earlier x roles are w c.if-have.value v.is_in_front.result v.value-is (sym c.have.ensures ∙ v.if-have.false)
          v.is_in_front.ensures
    ]
    ) in
    none_passes test labels i d c.loop-label-test.true (c.loop-label.invariant x are) (is ∙ ap not c.if-not-is_in_front.false)
