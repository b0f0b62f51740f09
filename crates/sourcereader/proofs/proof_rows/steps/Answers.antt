-- What is left to show of `steps`.
use Rattle.std.proofs.Common.{◌≡◌, false, [], ap, refl, sym, subst, ◌∙◌, arith}
use Rattle.std.specs.Prelude.{codes}
use Rattle.std.proofs.lemmas.Bool.{eqb-true, eqb-false}
use Rattle.std.proofs.lemmas.Result.{err_from_is_err_and}
use Rattle.std.specs.Str.{bytes_eq}
use Rattle.mmtext.specs.declared.mark.Mark.TheVariants as mark
use Rattle.mmtext.specs.Views.{seen, Fails}
use Rattle.mmsyntax.specs.Rows.{first_fault}
use Rattle.source.specs.Faults.{in_steps}
use Rattle.source.specs.Tests.{step_tests}
use Rattle.source.specs.Views.{seen_words}
use Rattle.sourcereader.specs.Views.{standing_at}
use Rattle.sourcereader.proofs.Grown.{not_both, none_seen, some_seen, proof_grows, grown, not_grown}
use Rattle.sourcereader.proofs.proof_rows.steps.Goals as goal
use Rattle.sourcereader.proofs.proof_rows.steps.Goals.{else-is_empty-via-then-is_empty+else-eq, else-is_empty-via-else-is_empty}
use Rattle.sourcereader.proofs.proof_rows.steps.Goals.{else-eq-2-via-then-eq-2+else-not-is_empty, else-eq-2-via-else-eq-2}

pub end-requires : goal.end-requires
end-requires g c k =
    let s = (g.S.Standing.stand c.args.standing.now).scope in
    let e = seen_words c.args.theorem.expression.items in
    let whole = c.is_whole-whole.ensures.steps s e (seen_words c.args.normal.steps.items) c.requires.counts.1 in
    ((refl, tt), (c.requires.stated, (whole, c.requires.counts.0)))

pub returns-in_err-put_step-clause-leads : goal.returns-in_err-put_step-clause-leads
returns-in_err-put_step-clause-leads g c =
    let u = seen c.args.token in
    let s = g.S.Standing.stand c.args.standing.now in
    let label = c.args.theorem.label.now in
    let e = seen_words c.args.theorem.expression.items in
    let ws = seen_words c.args.normal.steps.items in
    let other : ws ≡ [] → bytes_eq u.text (codes "(") ≡ false =
    elim c.else-is_empty.branch [
      | else-is_empty-via-then-is_empty+else-eq w ↦
          λ _. ap (bytes_eq u.text) (sym w.as_slice.ensures) ∙ sym w.eq.ensures ∙ w.if-eq.false
      | else-is_empty-via-else-is_empty w ↦
          λ none. absurd (some_seen c.args.normal.steps.items (λ zero. eqb-false _ _ (sym c.is_empty.ensures ∙ w.if-is_empty.false)
          (omega (arith, zero))) none)
    ] in
    let open_yet : c.args.mark ≡ mark.End → ws ≡ [] =
    elim c.else-eq-2.branch [
      | else-eq-2-via-then-eq-2+else-not-is_empty w ↦
          λ _. none_seen c.args.normal.steps.items
          (omega (arith, eqb-true _ _ (sym w.is_empty-then-eq-2.ensures ∙ w.if-not-is_empty.false)))
      | else-eq-2-via-else-eq-2 w ↦ λ is. absurd (not_both c.eq-2.result (rw (c.eq-2.ensures, is) refl) w.if-eq-2.false)
    ] in
    let p = err_from_is_err_and c.from_residual.result c.from_residual.ensures.1 in
    let why = c.in_err-put_step.field-0.0 in
    rw (p.1, p.2)
    (subst (Fails why) (sym (proof_grows (standing_at s (in_steps label e ws)) label e ws u c.args.mark other open_yet))
    (not_grown why u ws (first_fault (step_tests s.scope ws u.text)) _ c.in_err-put_step.ensures.puts))

pub returns-clause-leads : goal.returns-clause-leads
returns-clause-leads g c =
    let u = seen c.args.token in
    let s = g.S.Standing.stand c.args.standing.now in
    let label = c.args.theorem.label.now in
    let e = seen_words c.args.theorem.expression.items in
    let ws = seen_words c.args.normal.steps.items in
    let here = in_steps label e ws in
    let other : ws ≡ [] → bytes_eq u.text (codes "(") ≡ false =
    elim c.else-is_empty.branch [
      | else-is_empty-via-then-is_empty+else-eq w ↦
          λ _. ap (bytes_eq u.text) (sym w.as_slice.ensures) ∙ sym w.eq.ensures ∙ w.if-eq.false
      | else-is_empty-via-else-is_empty w ↦
          λ none. absurd (some_seen c.args.normal.steps.items (λ zero. eqb-false _ _ (sym c.is_empty.ensures ∙ w.if-is_empty.false)
          (omega (arith, zero))) none)
    ] in
    let open_yet : c.args.mark ≡ mark.End → ws ≡ [] =
    elim c.else-eq-2.branch [
      | else-eq-2-via-then-eq-2+else-not-is_empty w ↦
          λ _. none_seen c.args.normal.steps.items
          (omega (arith, eqb-true _ _ (sym w.is_empty-then-eq-2.ensures ∙ w.if-not-is_empty.false)))
      | else-eq-2-via-else-eq-2 w ↦ λ is. absurd (not_both c.eq-2.result (rw (c.eq-2.ensures, is) refl) w.if-eq-2.false)
    ] in
    proof_grows (standing_at s here) label e ws u c.args.mark other open_yet
    ∙ grown s s u ws (seen_words c.put_step.new.normal.steps.items) (first_fault (step_tests s.scope ws u.text)) here
    (λ x. in_steps label e x) refl c.in_ok-put_step.ensures.puts
