-- What is left to show of `take_in_proof`.
use Rattle.std.proofs.Common.{◌≡◌, ◌∙◌, true, false, [], Ok, Err, ap, sym, subst, arith}
use Rattle.std.proofs.lemmas.Bool.{eqb-false}
use Rattle.std.proofs.lemmas.Result.{err_from_is_err_and}
use Rattle.std.specs.Prelude.{codes}
use Rattle.std.specs.Str.{bytes_eq}
use Rattle.mmtext.specs.Takings.{TakesWord}
use Rattle.mmtext.specs.Views.{seen}
use Rattle.mmsyntax.specs.Rows.{first_fault}
use Rattle.source.specs.Counts.{CountsLetters}
use Rattle.source.specs.Faults.{in_letters, source_language}
use Rattle.source.specs.Tests.{step_tests, cited_tests, letter_tests}
use Rattle.source.specs.Views.{seen_words}
use Rattle.sourcereader.specs.declared.place.Numbered.{Numbered}
use Rattle.sourcereader.specs.declared.place.Place.TheVariants.{InProof}
use Rattle.sourcereader.specs.declared.place.ProofPlace.TheVariants.{InSteps, InLabels, InLetters}
use Rattle.sourcereader.specs.Standing.{IsCountedProof, IsNumbered}
use Rattle.sourcereader.specs.Views.{seen_at, standing_at}
use Rattle.sourcereader.proofs.Grown.{some_seen}
use Rattle.sourcereader.proofs.Taken.{steps_taken, labels_taken, letters_taken, fails_item}
use Rattle.sourcereader.proofs.words.take_in_proof.Goals as goal
use Rattle.sourcereader.proofs.words.take_in_proof.Goals.{else-is_empty-via-then-is_empty+else-eq, else-is_empty-via-else-is_empty}

pub returns-in_err-put_step-in-InSteps-clause-taken : goal.returns-in_err-put_step-in-InSteps-clause-taken
returns-in_err-put_step-in-InSteps-clause-taken g c =
    let stand = g.S.Standing.stand c.args.standing.now in
    let t = seen c.args.token in
    let x = c.args.begun.now.theorem in
    let e = seen_words x.expression.items in
    let old = seen_words c.in-InSteps.normal.steps.items in
    let new = seen_words c.put_step.new.normal.steps.items in
    let why = c.in_err-put_step-in-InSteps.field-0.0 in
    let other : old ≡ [] → bytes_eq t.text (codes "(") ≡ false =
    elim c.else-is_empty.branch [
      | else-is_empty-via-then-is_empty+else-eq w ↦
          λ _. ap (bytes_eq t.text) (sym w.as_slice.ensures) ∙ sym w.eq.ensures ∙ w.if-eq.false
      | else-is_empty-via-else-is_empty w ↦
          λ none. absurd (some_seen c.in-InSteps.normal.steps.items
          (λ zero. eqb-false _ _ (sym c.is_empty.ensures ∙ w.if-is_empty.false) (omega (arith, zero))) none)
    ] in
    let p = err_from_is_err_and c.from_residual.result c.from_residual.ensures.1 in
    rw (p.1, p.2)
    (subst (λ q. TakesWord source_language (seen_at stand (InProof (record { theorem = x; place = q }))) t
    (seen_at stand (InProof (record { theorem = x; place = InSteps c.put_step.new.normal }))) (Err why)) (sym c.in-InSteps.is)
    (steps_taken stand x.label.now e t old new (Err why) other
    (fails_item why t (first_fault (step_tests stand.scope old t.text)) old new (sym c.contains_dollar.ensures ∙ c.if-contains_dollar.false)
    c.in_err-put_step-in-InSteps.ensures.puts)))

pub returns-in_ok-put_step-in-InSteps-clause-taken : goal.returns-in_ok-put_step-in-InSteps-clause-taken
returns-in_ok-put_step-in-InSteps-clause-taken g c =
    let stand = g.S.Standing.stand c.args.standing.now in
    let t = seen c.args.token in
    let x = c.args.begun.now.theorem in
    let e = seen_words x.expression.items in
    let old = seen_words c.in-InSteps.normal.steps.items in
    let new = seen_words c.put_step.new.normal.steps.items in
    let other : old ≡ [] → bytes_eq t.text (codes "(") ≡ false =
    elim c.else-is_empty.branch [
      | else-is_empty-via-then-is_empty+else-eq w ↦
          λ _. ap (bytes_eq t.text) (sym w.as_slice.ensures) ∙ sym w.eq.ensures ∙ w.if-eq.false
      | else-is_empty-via-else-is_empty w ↦
          λ none. absurd (some_seen c.in-InSteps.normal.steps.items
          (λ zero. eqb-false _ _ (sym c.is_empty.ensures ∙ w.if-is_empty.false) (omega (arith, zero))) none)
    ] in
    subst (λ q. TakesWord source_language (seen_at stand (InProof (record { theorem = x; place = q }))) t
    (seen_at stand (InProof (record { theorem = x; place = InSteps c.put_step.new.normal }))) (Ok true)) (sym c.in-InSteps.is)
    (steps_taken stand x.label.now e t old new (Ok true) other
    (sym c.contains_dollar.ensures ∙ c.if-contains_dollar.false, c.in_ok-put_step-in-InSteps.ensures.puts))

pub returns-in_err-put_label-in-InLabels-clause-taken : goal.returns-in_err-put_label-in-InLabels-clause-taken
returns-in_err-put_label-in-InLabels-clause-taken g c =
    let stand = g.S.Standing.stand c.args.standing.now in
    let t = seen c.args.token in
    let x = c.args.begun.now.theorem in
    let e = seen_words x.expression.items in
    let old = seen_words c.in-InLabels.numbered.labels.items in
    let new = seen_words c.put_label.new.numbered.labels.items in
    let why = c.in_err-put_label-in-InLabels.field-0.0 in
    let other = ap (bytes_eq t.text) (sym c.as_slice-in-InLabels.ensures) ∙ sym c.eq-in-InLabels.ensures ∙ c.if-eq-2.false in
    let f = c.from_residual-in_err-put_label-in-InLabels in
    let p = err_from_is_err_and f.result f.ensures.1 in
    rw (p.1, p.2)
    (subst (λ q. TakesWord source_language (seen_at stand (InProof (record { theorem = x; place = q }))) t
    (seen_at stand (InProof (record { theorem = x; place = InLabels c.put_label.new.numbered }))) (Err why)) (sym c.in-InLabels.is)
    (labels_taken stand x.label.now e t old new (Err why) other
    (fails_item why t (first_fault (cited_tests stand.scope e t.text)) old new (sym c.contains_dollar.ensures ∙ c.if-contains_dollar.false)
    c.in_err-put_label-in-InLabels.ensures.puts)))

pub returns-in_ok-put_label-in-InLabels-clause-taken : goal.returns-in_ok-put_label-in-InLabels-clause-taken
returns-in_ok-put_label-in-InLabels-clause-taken g c =
    let stand = g.S.Standing.stand c.args.standing.now in
    let t = seen c.args.token in
    let x = c.args.begun.now.theorem in
    let e = seen_words x.expression.items in
    let old = seen_words c.in-InLabels.numbered.labels.items in
    let new = seen_words c.put_label.new.numbered.labels.items in
    let other = ap (bytes_eq t.text) (sym c.as_slice-in-InLabels.ensures) ∙ sym c.eq-in-InLabels.ensures ∙ c.if-eq-2.false in
    subst (λ q. TakesWord source_language (seen_at stand (InProof (record { theorem = x; place = q }))) t
    (seen_at stand (InProof (record { theorem = x; place = InLabels c.put_label.new.numbered }))) (Ok true)) (sym c.in-InLabels.is)
    (labels_taken stand x.label.now e t old new (Ok true) other
    (sym c.contains_dollar.ensures ∙ c.if-contains_dollar.false, c.in_ok-put_label-in-InLabels.ensures.puts))

pub returns-in_err-put_letters-in-InLetters-clause-taken : goal.returns-in_err-put_letters-in-InLetters-clause-taken
returns-in_err-put_letters-in-InLetters-clause-taken g c =
    let stand = g.S.Standing.stand c.args.standing.now in
    let t = seen c.args.token in
    let x = c.args.begun.now.theorem in
    let e = seen_words x.expression.items in
    let ws = seen_words c.in-InLetters.compressed.numbered.labels.items in
    let old = seen_words c.in-InLetters.compressed.letters.items in
    let new = seen_words c.put_letters.new.compressed.letters.items in
    let why = c.in_err-put_letters-in-InLetters.field-0.0 in
    let h = subst (IsCountedProof stand.scope (g.S.Standing.marks c.args.standing.now) e) c.in-InLetters.is c.requires in
    let f = c.from_residual-in_err-put_letters-in-InLetters in
    let p = err_from_is_err_and f.result f.ensures.1 in
    rw (p.1, p.2)
    (subst (λ q. TakesWord source_language (seen_at stand (InProof (record { theorem = x; place = q }))) t
    (seen_at stand (InProof (record { theorem = x; place = InLetters c.put_letters.new.compressed }))) (Err why)) (sym c.in-InLetters.is)
    (subst (λ (n : Numbered). TakesWord source_language (standing_at stand (in_letters x.label.now e ws old)) t
    (standing_at stand (in_letters x.label.now e (seen_words n.labels.items) new)) (Err why)) (sym c.put_letters.ensures.same)
    (letters_taken stand x.label.now e ws t old new (Err why)
    (fails_item why t (first_fault (letter_tests stand.scope e ws old t.text)) old new
    (sym c.contains_dollar.ensures ∙ c.if-contains_dollar.false)
    (c.in_err-put_letters-in-InLetters.ensures.puts stand.scope e h.1 h.2)))))

pub returns-in_ok-put_letters-in-InLetters-clause-taken : goal.returns-in_ok-put_letters-in-InLetters-clause-taken
returns-in_ok-put_letters-in-InLetters-clause-taken g c =
    let stand = g.S.Standing.stand c.args.standing.now in
    let t = seen c.args.token in
    let x = c.args.begun.now.theorem in
    let e = seen_words x.expression.items in
    let ws = seen_words c.in-InLetters.compressed.numbered.labels.items in
    let old = seen_words c.in-InLetters.compressed.letters.items in
    let new = seen_words c.put_letters.new.compressed.letters.items in
    let h = subst (IsCountedProof stand.scope (g.S.Standing.marks c.args.standing.now) e) c.in-InLetters.is c.requires in
    subst (λ q. TakesWord source_language (seen_at stand (InProof (record { theorem = x; place = q }))) t
    (seen_at stand (InProof (record { theorem = x; place = InLetters c.put_letters.new.compressed }))) (Ok true)) (sym c.in-InLetters.is)
    (subst (λ (n : Numbered). TakesWord source_language (standing_at stand (in_letters x.label.now e ws old)) t
    (standing_at stand (in_letters x.label.now e (seen_words n.labels.items) new)) (Ok true)) (sym c.put_letters.ensures.same)
    (letters_taken stand x.label.now e ws t old new (Ok true) (
      sym c.contains_dollar.ensures ∙ c.if-contains_dollar.false,
      c.in_ok-put_letters-in-InLetters.ensures.puts stand.scope e h.1 h.2,
    )))

pub returns-in_ok-put_letters-in-InLetters-clause-counted : goal.returns-in_ok-put_letters-in-InLetters-clause-counted
returns-in_ok-put_letters-in-InLetters-clause-counted g c =
    let s = (g.S.Standing.stand c.args.standing.now).scope in
    let e = seen_words c.args.begun.now.theorem.expression.items in
    let ls = seen_words c.put_letters.new.compressed.letters.items in
    let h = subst (IsCountedProof s (g.S.Standing.marks c.args.standing.now) e) c.in-InLetters.is c.requires in
    let p = c.put_letters.new.compressed in
    let both = subst (λ (n : Numbered). IsNumbered s e n × CountsLetters s e (seen_words n.labels.items) ls p.entries)
    (sym c.put_letters.ensures.same) (h.1, c.in_ok-put_letters-in-InLetters.ensures.counted s e h.1 h.2) in
    (h.0, both.0, both.1)
