-- What is left to show of `parted`.
use Rattle.std.proofs.Common.{◌≡◌, Some, inr, subst}
use Rattle.std.proofs.lemmas.Result.{err_from_is_err_and}
use Rattle.sourceediting.specs.PutIn.{CanBePutIn}
use Rattle.sourceediting.specs.Refusals.{IsKnownAs, IsNotPutIn}
use Rattle.sourceediting.specs.Views.{seen_living, edition_of}
use Rattle.sourceediting.proofs.Unwritten.{on_unwritten}
use Rattle.sourceediting.proofs.rearranging.parted.Goals as goal

pub returns-in_err-text-clause-refused : goal.returns-in_err-text-clause-refused
returns-in_err-text-clause-refused g c = λ living edited text there.
    let p = err_from_is_err_and c.from_residual.result c.from_residual.ensures.1 in
    rw (p.1, p.2) (c.in_err-text.ensures.refused living edited text there)

pub returns-in_err-text-clause-unwritten : goal.returns-in_err-text-clause-unwritten
returns-in_err-text-clause-unwritten g c = λ voc there known.
    let p = err_from_is_err_and c.from_residual.result c.from_residual.ensures.1 in
    let s = g.D.Declared.scope c.args.declared.now in
    let e = edition_of c.args.edits.now.planned in
    let living = seen_living c.args.edits.now.planned.living.now in
    let cs = c.args.edits.now.changes.now in
    let assertion = c.args.assertion.now in
    let source = c.args.standing.now.label.now in
    let word = c.changed_in.result.now in
    let form = c.is_compressed.result in
    rw (p.1, p.2)
    (on_unwritten (λ label. (assertion.label ≡ label) × (CanBePutIn s e living form word assertion → ⊥)) (IsNotPutIn s e living cs)
    (λ label h. record {
      assertion = assertion;
      there = there;
      labelled = h.0;
      word = word;
      is_compressed = form;
      comes =
          inr
          (source, subst (λ w. IsKnownAs living w (Some source)) h.0 known, c.changed_in.ensures, c.is_compressed.ensures);
      cannot = h.1;
    }) _ (c.in_err-text.ensures.unwritten e living voc))
