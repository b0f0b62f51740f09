-- What is left to show of `distinct`.
use Rattle.std.proofs.Common.{◌≡◌, ◌≤◌, ◌∙◌, length, refl, sym, subst, arith}
use Rattle.std.proofs.lemmas.Result.{err_from_is_err_and}
use Rattle.mmtext.specs.declared.mark.Mark.TheVariants as mark
use Rattle.mmtext.specs.Views.{seen, Fails}
use Rattle.mmsyntax.specs.Rows.{first_fault}
use Rattle.source.specs.Faults.{in_distinct}
use Rattle.source.specs.Tests.{distinct_tests}
use Rattle.source.specs.Views.{seen_words}
use Rattle.sourcereader.specs.Views.{standing_at}
use Rattle.sourcereader.proofs.Grown.{not_both, few_seen, distinct_grows, grown, not_grown}
use Rattle.sourcereader.proofs.rows.distinct.Goals as goal
use Rattle.sourcereader.proofs.rows.distinct.Goals.{else-eq-via-then-eq+else-len-gt1, else-eq-via-else-eq}

pub returns-in_err-variables-clause-leads : goal.returns-in_err-variables-clause-leads
returns-in_err-variables-clause-leads g c =
    let u = seen c.args.token in
    let e = seen_words c.args.variables.items in
    let s = g.S.Standing.stand c.args.standing.now in
    let here = in_distinct e in
    let p = err_from_is_err_and c.from_residual-in_err-variables.result c.from_residual-in_err-variables.ensures.1 in
    let why = c.in_err-variables.field-0.0 in
    let open_yet : c.args.mark ≡ mark.End → length e ≤ 1 =
    elim c.else-eq.branch [
      | else-eq-via-then-eq+else-len-gt1 w ↦ λ _. few_seen c.args.variables.items (let few = w.if-len-gt1.false in omega arith)
      | else-eq-via-else-eq w ↦ λ is. absurd (not_both c.eq.result (rw (c.eq.ensures, is) refl) w.if-eq.false)
    ] in
    rw (p.1, p.2)
    (subst (Fails why) (sym (distinct_grows (standing_at s here) e u c.args.mark open_yet))
    (not_grown why u e (first_fault (distinct_tests s.scope e u.text)) _ c.in_err-variables.ensures))

pub returns-clause-leads : goal.returns-clause-leads
returns-clause-leads g c =
    let u = seen c.args.token in
    let e = seen_words c.args.variables.items in
    let s = g.S.Standing.stand c.args.standing.now in
    let here = in_distinct e in
    let open_yet : c.args.mark ≡ mark.End → length e ≤ 1 =
    elim c.else-eq.branch [
      | else-eq-via-then-eq+else-len-gt1 w ↦ λ _. few_seen c.args.variables.items (let few = w.if-len-gt1.false in omega arith)
      | else-eq-via-else-eq w ↦ λ is. absurd (not_both c.eq.result (rw (c.eq.ensures, is) refl) w.if-eq.false)
    ] in
    distinct_grows (standing_at s here) e u c.args.mark open_yet
    ∙ grown s s u e (seen_words c.in_ok-variables.variables.items)
    (first_fault (distinct_tests s.scope e u.text)) here (λ x. in_distinct x) refl
    c.in_ok-variables.ensures
