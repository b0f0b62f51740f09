-- What is left to show of `labels`.
use Rattle.std.proofs.Common.{◌∙◌, refl, sym, ap, subst}
use Rattle.std.proofs.lemmas.Result.{err_from_is_err_and}
use Rattle.std.specs.Str.{bytes_eq}
use Rattle.mmtext.specs.Views.{seen, Fails}
use Rattle.mmsyntax.specs.Rows.{first_fault}
use Rattle.source.specs.Faults.{in_labels}
use Rattle.source.specs.Tests.{cited_tests}
use Rattle.source.specs.Views.{seen_words}
use Rattle.sourcereader.specs.Views.{standing_at}
use Rattle.sourcereader.proofs.Grown.{labels_grow, grown, not_grown}
use Rattle.sourcereader.proofs.proof_rows.labels.Goals as goal

pub returns-then-eq-clause-counted : goal.returns-then-eq-clause-counted
returns-then-eq-clause-counted g c =
    let s = (g.S.Standing.stand c.args.standing.now).scope in
    let e = seen_words c.args.theorem.expression.items in
    (c.requires.0, c.requires.1, rw c.new.ensures.items (c.new-then-eq.ensures.letters s e (seen_words c.args.numbered.labels.items)))

pub returns-in_err-put_label-clause-leads : goal.returns-in_err-put_label-clause-leads
returns-in_err-put_label-clause-leads g c =
    let u = seen c.args.token in
    let s = g.S.Standing.stand c.args.standing.now in
    let label = c.args.theorem.label.now in
    let e = seen_words c.args.theorem.expression.items in
    let ws = seen_words c.args.numbered.labels.items in
    let other = ap (bytes_eq u.text) (sym c.as_slice.ensures) ∙ sym c.eq.ensures ∙ c.if-eq.false in
    let p = err_from_is_err_and c.from_residual.result c.from_residual.ensures.1 in
    let why = c.in_err-put_label.field-0.0 in
    rw (p.1, p.2)
    (subst (Fails why) (sym (labels_grow (standing_at s (in_labels label e ws)) label e ws u other))
    (not_grown why u ws (first_fault (cited_tests s.scope e u.text)) _ c.in_err-put_label.ensures.puts))

pub returns-clause-leads : goal.returns-clause-leads
returns-clause-leads g c =
    let u = seen c.args.token in
    let s = g.S.Standing.stand c.args.standing.now in
    let label = c.args.theorem.label.now in
    let e = seen_words c.args.theorem.expression.items in
    let ws = seen_words c.args.numbered.labels.items in
    let here = in_labels label e ws in
    let other = ap (bytes_eq u.text) (sym c.as_slice.ensures) ∙ sym c.eq.ensures ∙ c.if-eq.false in
    labels_grow (standing_at s here) label e ws u other
    ∙ grown s s u ws (seen_words c.put_label.new.numbered.labels.items) (first_fault (cited_tests s.scope e u.text)) here
    (λ x. in_labels label e x) refl c.in_ok-put_label.ensures.puts
