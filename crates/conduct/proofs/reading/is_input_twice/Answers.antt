use Rattle.std.proofs.Common.{◌+◌, ◌<◌, ◌∙◌, ℕ, ap, arith, length, sym}
use Rattle.conduct.proofs.Inputs.{all_counted, none_more, one_more}
use Rattle.conduct.proofs.reading.is_input_twice.Goals as goal
use Rattle.conduct.proofs.reading.is_input_twice.Goals.{then-eq, else-eq}

pub loop-path-preserved : goal.loop-path-preserved
loop-path-preserved c =
    let ps = c.args.paths.now in
    let k = c.loop-path.path-index in
    let within : k < length ps = omega (arith, c.loop-path-test.true) in
    let (least, counted) = c.loop-path.invariant in
    elim c.if-eq.branch [
      | then-eq w ↦ (
        omega (arith, w.many-is, least),
        w.many-is ∙ (ap (λ (n : ℕ). n + 1) counted ∙ sym (one_more ps k _ within (sym c.eq.ensures ∙ w.if-eq.true))),
      )
      | else-eq w ↦ (
        omega (arith, w.many-is, least),
        w.many-is ∙ (counted ∙ sym (none_more ps k _ within (sym c.eq.ensures ∙ w.if-eq.false))),
      )
    ]

pub returns : goal.returns
returns c =
    all_counted c.args.paths.now c.loop-path.path-index c.loop-path.many c.loop-path-test.false c.loop-path.invariant.1
