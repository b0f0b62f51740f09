-- What is left to show of `write_over`.
use Rattle.std.proofs.Common.{◌≡◌, ◌∙◌, refl, sym, ap, subst, inl, inr}
use Rattle.std.specs.Prelude.{All}
use Rattle.std.proofs.lemmas.Result.{IfOk-weaker, err_from_is_err_and}
use Rattle.source.specs.Views.{seen_words}
use Rattle.giving.specs.Changes.{seen_texts}
use Rattle.sourceediting.specs.Following.{KeepsPlaces, all_commands}
use Rattle.sourceediting.specs.Refusals.{IsNotReproved, IsNotPutIn, IsUnwritten}
use Rattle.sourceediting.proofs.Unwritten.{on_unwritten, if_unwritten}
use Rattle.sourceediting.specs.Reproved.{AreOtherProofs}
use Rattle.sourceediting.specs.Views.{seen_living, edition_of}
use Rattle.sourceediting.specs.Written.{IsWrittenAnew}
use Rattle.sourceediting.proofs.Bared.{listed_anew}
use Rattle.sourceediting.proofs.Rewritten.{by_others}
use Rattle.sourceediting.proofs.writing.write_over.Goals as goal

pub returns-clause-written : goal.returns-clause-written
returns-clause-written g c =
    let commands = all_commands c.args.entries.now in
    let cs = c.args.changes.now in
    let source = c.args.source.now in
    let proofs = c.in_ok-proofs-2.proofs in
    let planned = c.args.planned.now in
    let are_others = AreOtherProofs source (g.D.Declared.scope c.args.declared.now) (edition_of planned) (seen_living planned.living.now) in
    let are = subst are_others (sym (c.in_ok-proofs-2.ensures ∙ ap seen_texts c.as_slice.ensures.value)) c.in_ok-proofs.ensures.made in
    let living = seen_living planned.living.now in
    let gone = seen_words planned.gone.now in
    IfOk-weaker c.written.result (λ out. IsWrittenAnew commands living gone (λ ps. ps ≡ proofs) cs source out.items)
    (λ out. IsWrittenAnew commands living gone are_others cs source out.items)
    (λ out. by_others commands living gone cs source out.items are_others proofs are) c.written.ensures.written

pub returns-clause-refused : goal.returns-clause-refused
returns-clause-refused g c = c.written.ensures.refused

pub returns-in_err-proofs-clause-refused : goal.returns-in_err-proofs-clause-refused
returns-in_err-proofs-clause-refused g c =
    let p = err_from_is_err_and c.from_residual.result c.from_residual.ensures.1 in
    rw (p.1, p.2) (c.in_err-proofs.ensures.refused c.args.source.now)

pub written-requires : goal.written-requires
written-requires g c κs =
    let source = c.args.source.now in
    let planned = c.args.planned.now in
    let s = g.D.Declared.scope c.args.declared.now in
    let e = edition_of planned in
    let living = seen_living planned.living.now in
    let are = subst (AreOtherProofs source s e living) (sym (c.in_ok-proofs-2.ensures ∙ ap seen_texts c.as_slice.ensures.value))
    c.in_ok-proofs.ensures.made in (
      (refl, (refl, tt)),
      (c.requires.labelled, (c.requires.divided, listed_anew source s e living c.in_ok-proofs-2.proofs are)),
    )

pub returns-clause-unwritten : goal.returns-clause-unwritten
returns-clause-unwritten g c = λ told finds.
    let s = g.D.Declared.scope c.args.declared.now in
    let planned = c.args.planned.now in
    let e = edition_of planned in
    let living = seen_living planned.living.now in
    let cs = c.args.changes.now in
    let commands = all_commands c.args.entries.now in
    if_unwritten (λ label. IsNotPutIn s e living cs label × (All KeepsPlaces commands → ⊥)) (IsUnwritten s e living cs commands)
    c.written.result (λ label h. inr h) (c.written.ensures.unwritten (record { told = told; finds = finds }))

pub returns-in_err-proofs-clause-unwritten : goal.returns-in_err-proofs-clause-unwritten
returns-in_err-proofs-clause-unwritten g c = λ told finds.
    let p = err_from_is_err_and c.from_residual.result c.from_residual.ensures.1 in
    let s = g.D.Declared.scope c.args.declared.now in
    let planned = c.args.planned.now in
    let e = edition_of planned in
    let living = seen_living planned.living.now in
    rw (p.1, p.2)
    (on_unwritten (IsNotReproved s e living) (IsUnwritten s e living c.args.changes.now (all_commands c.args.entries.now))
    (λ label h. inl h) _ (c.in_err-proofs.ensures.unwritten told.steps))
