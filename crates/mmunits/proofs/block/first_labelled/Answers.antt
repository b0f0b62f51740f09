-- What is left to show of `first_labelled`.
use Rattle.std.proofs.Common.{◌≡◌, ◌+◌, suc, Some, drop, sym, ap, ◌∙◌, arith}
use Rattle.std.specs.Str.{bytes_eq}
use Rattle.mmsyntax.specs.Steps.{hypothesis_named}
use Rattle.mmsyntax.proofs.Names.{bytes_eq-sym}
use Rattle.mmunits.proofs.BlockPlaces.{behind, first_here, first_later}
use Rattle.mmunits.proofs.block.first_labelled.Goals as goal

pub returns-then-eq : goal.returns-then-eq
returns-then-eq c =
    let hyps = c.args.hyps.now in
    let w = c.args.word.now in
    let i = c.loop-hypothesis.hypothesis-index in
    let item = c.hypothesis-item.result in
    let tells = ap (λ h. bytes_eq w h.label) (sym c.hypothesis-item.is) ∙ ap (λ h. bytes_eq w h.label) (sym c.hypothesis.view_is)
    ∙ bytes_eq-sym w c.hypothesis.inside.label.now ∙ sym c.eq.ensures in
    let v = c.loop-hypothesis.invariant in
    ap (λ k. Some k) v.counted
    ∙ sym (v.same ∙ first_here (λ h. bytes_eq w h.label) hyps i item c.loop-hypothesis-test.true (tells ∙ c.if-eq.true))

pub loop-hypothesis-preserved : goal.loop-hypothesis-preserved
loop-hypothesis-preserved c =
    let hyps = c.args.hyps.now in
    let w = c.args.word.now in
    let i = c.loop-hypothesis.hypothesis-index in
    let item = c.hypothesis-item.result in
    let tells = ap (λ h. bytes_eq w h.label) (sym c.hypothesis-item.is) ∙ ap (λ h. bytes_eq w h.label) (sym c.hypothesis.view_is)
    ∙ bytes_eq-sym w c.hypothesis.inside.label.now ∙ sym c.eq.ensures in
    let v = c.loop-hypothesis.invariant in
    let one : suc i ≡ i + 1 = omega arith in
    record {
      counted = ap (λ k. k + 1) v.counted;
      same = v.same ∙ first_later (λ h. bytes_eq w h.label) hyps i item c.loop-hypothesis-test.true (tells ∙ c.if-eq.false)
          ∙ ap (λ k. behind k (hypothesis_named (drop k hyps) w)) one;
    }
