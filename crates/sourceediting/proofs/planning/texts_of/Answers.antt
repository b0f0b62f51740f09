-- What is left to show of `texts_of`.
use Rattle.std.proofs.Common.{◌≡◌, ◌∙◌, ℕ, List, sym, ap, subst}
use Rattle.std.specs.Borrow.{Bor}
use Rattle.std.specs.Prelude.{Contains}
use Rattle.std.proofs.lemmas.List.{map-append}
use Rattle.std.proofs.lemmas.Result.{err_from_is_err_and}
use Rattle.mmsyntax.specs.declared.statement.Assertion.{Assertion}
use Rattle.giving.specs.Changes.{seen_texts}
use Rattle.sourceediting.specs.Entries.{assertions_of}
use Rattle.sourceediting.specs.Reproved.{CanBeReproved, ListsAnew, IsWrittenFor}
use Rattle.sourceediting.specs.Refusals.{IsNotReproved}
use Rattle.sourceediting.proofs.Labelled.{proofs_more}
use Rattle.sourceediting.proofs.Unwritten.{on_unwritten}
use Rattle.sourceediting.proofs.planning.texts_of.Goals as goal

pub loop-label-preserved : goal.loop-label-preserved
loop-label-preserved g c = λ source e living indented names all.
    let s = g.D.Declared.scope c.args.declared.now in
    let item : Bor (List ℕ) × Bor Assertion = c.loop-label-item.result in
    let text = c.in_ok-text.text.items in
    let is : ListsAnew e living item.0.now item.1.now =
    subst (λ p. ListsAnew e living p.0.now p.1.now) (sym c.loop-label-item.is) (all c.loop-label.label-index item c.loop-label-test.true) in
    let wrote : IsWrittenFor source s e living item.0.now item.1.now text = c.in_ok-text.ensures.written source e living indented names in
    proofs_more source s e living (seen_texts c.loop-label.texts.items) _ (item.0.now, text)
    (c.loop-label.invariant source e living indented names all)
    (is.0, subst (λ a. IsWrittenFor source s e living item.0.now a text) (sym is.1) wrote)
    (ap seen_texts c.in_ok-push.ensures.items ∙ map-append _ c.loop-label.texts.items _)

pub returns-in_err-text-clause-refused : goal.returns-in_err-text-clause-refused
returns-in_err-text-clause-refused g c = λ e living text all.
    let p = err_from_is_err_and c.from_residual-in_err-text.result c.from_residual-in_err-text.ensures.1 in
    let item : Bor (List ℕ) × Bor Assertion = c.loop-label-item.result in
    let is : ListsAnew e living item.0.now item.1.now =
    subst (λ p. ListsAnew e living p.0.now p.1.now) (sym c.loop-label-item.is) (all c.loop-label.label-index item c.loop-label-test.true) in
    rw (p.1, p.2) (c.in_err-text.ensures.refused living (assertions_of e) text (subst (Contains (assertions_of e)) is.1 is.0.is))

pub returns-in_err-text-clause-unwritten : goal.returns-in_err-text-clause-unwritten
returns-in_err-text-clause-unwritten g c = λ e living names steps all.
    let s = g.D.Declared.scope c.args.declared.now in
    let p = err_from_is_err_and c.from_residual-in_err-text.result c.from_residual-in_err-text.ensures.1 in
    let item : Bor (List ℕ) × Bor Assertion = c.loop-label-item.result in
    let is : ListsAnew e living item.0.now item.1.now =
    subst (λ p. ListsAnew e living p.0.now p.1.now) (sym c.loop-label-item.is) (all c.loop-label.label-index item c.loop-label-test.true) in
    rw (p.1, p.2)
    (on_unwritten (λ label. (item.1.now.label ≡ label) × (CanBeReproved s e living item.0.now item.1.now → ⊥)) (IsNotReproved s e living)
    (λ label is-not. record {
      source = item.0.now;
      another = is.0;
      labelled = ap (λ a. a.label) is.1 ∙ is-not.0;
      cannot = subst (λ a. CanBeReproved s e living item.0.now a → ⊥) (sym is.1) is-not.1;
    }) _ (c.in_err-text.ensures.unwritten e living names steps))
