-- What is left to show of `letters`.
use Rattle.std.proofs.Common.{◌≡◌, ◌∙◌, [], Ok, ap, refl, sym, subst, arith}
use Rattle.std.proofs.lemmas.Bool.{eqb-true}
use Rattle.std.proofs.lemmas.Result.{err_from_is_err_and}
use Rattle.mmtext.specs.declared.mark.Mark.TheVariants as mark
use Rattle.mmtext.specs.Views.{seen, Fails}
use Rattle.mmsyntax.specs.Rows.{first_fault}
use Rattle.source.specs.Counts.{CountsLetters}
use Rattle.source.specs.Faults.{in_letters}
use Rattle.source.specs.Tests.{letter_tests}
use Rattle.source.specs.Views.{seen_words}
use Rattle.sourcereader.specs.declared.place.Numbered.{Numbered}
use Rattle.sourcereader.specs.Standing.{IsNumbered}
use Rattle.sourcereader.specs.Views.{standing_at}
use Rattle.sourcereader.proofs.Grown.{not_both, none_seen, letters_grow, grown, not_grown}
use Rattle.sourcereader.proofs.proof_rows.letters.Goals as goal
use Rattle.sourcereader.proofs.proof_rows.letters.Goals.{else-eq-via-then-eq+else-not-is_empty, else-eq-via-else-eq}

pub end-requires : goal.end-requires
end-requires g c k =
    let s = (g.S.Standing.stand c.args.standing.now).scope in
    let e = seen_words c.args.theorem.expression.items in
    let ws = seen_words c.args.compressed.numbered.labels.items in
    let whole = c.is_whole-whole.ensures.letters s e ws (seen_words c.args.compressed.letters.items) c.requires.counts.2 in
    ((refl, tt), (c.requires.stated, (whole, c.requires.counts.0)))

pub returns-in_err-put_letters-clause-leads : goal.returns-in_err-put_letters-clause-leads
returns-in_err-put_letters-clause-leads g c =
    let u = seen c.args.token in
    let s = g.S.Standing.stand c.args.standing.now in
    let label = c.args.theorem.label.now in
    let e = seen_words c.args.theorem.expression.items in
    let ws = seen_words c.args.compressed.numbered.labels.items in
    let ls = seen_words c.args.compressed.letters.items in
    let open_yet : c.args.mark ≡ mark.End → ls ≡ [] =
    elim c.else-eq.branch [
      | else-eq-via-then-eq+else-not-is_empty w ↦
          λ _. none_seen c.args.compressed.letters.items (omega (arith, eqb-true _ _ (sym w.is_empty.ensures ∙ w.if-not-is_empty.false)))
      | else-eq-via-else-eq w ↦ λ is. absurd (not_both c.eq.result (rw (c.eq.ensures, is) refl) w.if-eq.false)
    ] in
    let p = err_from_is_err_and c.from_residual.result c.from_residual.ensures.1 in
    let why = c.in_err-put_letters.field-0.0 in
    rw (p.1, p.2)
    (subst (Fails why) (sym (letters_grow (standing_at s (in_letters label e ws ls)) label e ws ls u c.args.mark open_yet))
    (not_grown why u ls (first_fault (letter_tests s.scope e ws ls u.text)) _
    (c.in_err-put_letters.ensures.puts s.scope e c.requires.counts.1 c.requires.counts.2)))

pub returns-clause-leads : goal.returns-clause-leads
returns-clause-leads g c =
    let u = seen c.args.token in
    let s = g.S.Standing.stand c.args.standing.now in
    let label = c.args.theorem.label.now in
    let e = seen_words c.args.theorem.expression.items in
    let ws = seen_words c.args.compressed.numbered.labels.items in
    let ls = seen_words c.args.compressed.letters.items in
    let here = in_letters label e ws ls in
    let next = seen_words c.put_letters.new.compressed.letters.items in
    let open_yet : c.args.mark ≡ mark.End → ls ≡ [] =
    elim c.else-eq.branch [
      | else-eq-via-then-eq+else-not-is_empty w ↦
          λ _. none_seen c.args.compressed.letters.items (omega (arith, eqb-true _ _ (sym w.is_empty.ensures ∙ w.if-not-is_empty.false)))
      | else-eq-via-else-eq w ↦ λ is. absurd (not_both c.eq.result (rw (c.eq.ensures, is) refl) w.if-eq.false)
    ] in
    letters_grow (standing_at s here) label e ws ls u c.args.mark open_yet
    ∙ grown s s u ls next (first_fault (letter_tests s.scope e ws ls u.text)) here (λ x. in_letters label e ws x) refl
    (c.in_ok-put_letters.ensures.puts s.scope e c.requires.counts.1 c.requires.counts.2)
    ∙ ap (λ (n : Numbered). Ok (standing_at s (in_letters label e (seen_words n.labels.items) next))) (sym c.put_letters.ensures.same)

pub returns-clause-counted : goal.returns-clause-counted
returns-clause-counted g c =
    let s = (g.S.Standing.stand c.args.standing.now).scope in
    let e = seen_words c.args.theorem.expression.items in
    let ls = seen_words c.put_letters.new.compressed.letters.items in
    let p = c.put_letters.new.compressed in
    let both = subst (λ (n : Numbered). IsNumbered s e n × CountsLetters s e (seen_words n.labels.items) ls p.entries)
    (sym c.put_letters.ensures.same)
    (c.requires.counts.1, c.in_ok-put_letters.ensures.counted s e c.requires.counts.1 c.requires.counts.2) in
    (c.requires.counts.0, both.0, both.1)
