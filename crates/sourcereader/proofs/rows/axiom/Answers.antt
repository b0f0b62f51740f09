-- What is left to show of `axiom`.
use Rattle.std.proofs.Common.{◌≡◌, ◌∙◌, [], refl, sym, subst, arith}
use Rattle.std.proofs.lemmas.Bool.{eqb-true}
use Rattle.std.proofs.lemmas.Result.{err_from_is_err_and}
use Rattle.mmtext.specs.declared.mark.Mark.TheVariants as mark
use Rattle.mmtext.specs.Views.{seen, Fails}
use Rattle.mmsyntax.specs.Rows.{first_fault}
use Rattle.source.specs.Faults.{in_axiom}
use Rattle.source.specs.Tests.{symbol_tests}
use Rattle.source.specs.Views.{seen_words}
use Rattle.sourcereader.specs.Views.{standing_at}
use Rattle.sourcereader.proofs.Grown.{not_both, none_seen, axiom_grows, grown, not_grown}
use Rattle.sourcereader.proofs.rows.axiom.Goals as goal
use Rattle.sourcereader.proofs.rows.axiom.Goals.{else-eq-via-then-eq+else-not-is_empty, else-eq-via-else-eq}

pub returns-in_err-expression-clause-leads : goal.returns-in_err-expression-clause-leads
returns-in_err-expression-clause-leads g c =
    let u = seen c.args.token in
    let e = seen_words c.args.expression.items in
    let s = g.S.Standing.stand c.args.standing.now in
    let here = in_axiom c.args.label.now e in
    let p = err_from_is_err_and c.from_residual-in_err-expression.result c.from_residual-in_err-expression.ensures.1 in
    let why = c.in_err-expression.field-0.0 in
    let open_yet : c.args.mark ≡ mark.End → e ≡ [] =
    elim c.else-eq.branch [
      | else-eq-via-then-eq+else-not-is_empty w ↦
          λ _. none_seen c.args.expression.items (omega (arith, eqb-true _ _ (sym w.is_empty.ensures ∙ w.if-not-is_empty.false)))
      | else-eq-via-else-eq w ↦ λ is. absurd (not_both c.eq.result (rw (c.eq.ensures, is) refl) w.if-eq.false)
    ] in
    rw (p.1, p.2)
    (subst (Fails why) (sym (axiom_grows (standing_at s here) c.args.label.now e u c.args.mark open_yet))
    (not_grown why u e (first_fault (symbol_tests s.scope e u.text)) _ c.in_err-expression.ensures.reads))

pub returns-clause-leads : goal.returns-clause-leads
returns-clause-leads g c =
    let u = seen c.args.token in
    let e = seen_words c.args.expression.items in
    let s = g.S.Standing.stand c.args.standing.now in
    let here = in_axiom c.args.label.now e in
    let open_yet : c.args.mark ≡ mark.End → e ≡ [] =
    elim c.else-eq.branch [
      | else-eq-via-then-eq+else-not-is_empty w ↦
          λ _. none_seen c.args.expression.items (omega (arith, eqb-true _ _ (sym w.is_empty.ensures ∙ w.if-not-is_empty.false)))
      | else-eq-via-else-eq w ↦ λ is. absurd (not_both c.eq.result (rw (c.eq.ensures, is) refl) w.if-eq.false)
    ] in
    axiom_grows (standing_at s here) c.args.label.now e u c.args.mark open_yet
    ∙ grown s (g.S.Standing.stand c.with_symbol.new.standing) u e (seen_words c.in_ok-expression.expression.items)
    (first_fault (symbol_tests s.scope e u.text)) here (λ x. in_axiom c.args.label.now x) c.with_symbol.ensures.same
    c.in_ok-expression.ensures.reads
