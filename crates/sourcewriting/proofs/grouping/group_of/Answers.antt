-- What is left to show of `group_of`.
use Rattle.std.proofs.Common.{◌∙◌, sym, ap, subst}
use Rattle.std.specs.List.{list_all}
use Rattle.sourcewriting.specs.Grouping.{IsGroupOf}
use Rattle.sourcewriting.proofs.Groups.{group_begun, group_more}
use Rattle.sourcewriting.proofs.grouping.group_of.Goals.{then-has_all+in_ok-push, else-has_all}
use Rattle.sourcewriting.proofs.grouping.group_of.Goals as goal

pub loop-variable-init : goal.loop-variable-init
loop-variable-init c =
    group_begun c.args.pairs.now c.args.one c.args.other c.in_ok-group.group.items c.requires
    (c.in_ok-group.ensures.items ∙ c.as_slice.ensures)

pub loop-variable-preserved : goal.loop-variable-preserved
loop-variable-preserved c = elim c.if-has_all.branch [
  | then-has_all+in_ok-push w ↦
      group_more c.args.pairs.now c.args.one c.args.other _ c.loop-variable.group.items c.if-has_all.group.items c.loop-variable.invariant
      (ap (list_all _) (sym c.as_slice-in-loop-variable.ensures.value) ∙ (sym c.has_all.ensures ∙ w.if-has_all.true))
      (ap (λ v. v.items) w.group-is ∙ w.in_ok-push.ensures.items)
  | else-has_all w ↦ subst (λ v. IsGroupOf c.args.pairs.now c.args.one c.args.other v.items) (sym w.group-is) c.loop-variable.invariant
]
