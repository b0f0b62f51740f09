use Rattle.std.proofs.Common.{sym, ◌∙◌, arith}
use Rattle.std.proofs.lemmas.Bool.{ltb-true}
use Rattle.std.proofs.lemmas.List.Sorted.{non_decreasing_from_is_sorted}
use Rattle.stepcheck.proofs.substitutes.Substitution.new.Goals as goal
use Rattle.stepcheck.proofs.substitutes.Substitution.new.Goals.{then-floats-gt-FEW, else-floats-gt-FEW}

pub invariant_of-result : goal.invariant_of-result
invariant_of-result c = (
  c.requires,
  elim c.if-floats-gt-FEW.branch [
    | then-floats-gt-FEW w ↦ λ ascends.
        let told = non_decreasing_from_is_sorted c.args.floats.now w.is_sorted.result w.is_sorted.ensures.cases in
        rw (sym w.result-is ∙ ascends) at told
    | else-floats-gt-FEW w ↦ λ ascends.
        let many = ltb-true 8 _ (sym w.result-is ∙ ascends) in absurd (omega (arith, many, w.if-floats-gt-FEW.false))
  ],
)
