-- What is left to show of `put_added`.
use Rattle.std.proofs.Common.{◌≡◌, ◌∙◌, ℕ, List, [], false, None, inl, map, get_or, sym, subst}
use Rattle.std.specs.Borrow.{Bor}
use Rattle.sourceediting.specs.declared.following.Followed.{Followed}
use Rattle.std.proofs.lemmas.Result.{err_from_is_err_and}
use Rattle.library.specs.declared.library.Ranked.{Ranked}
use Rattle.sourceediting.specs.PutIn.{CanBePutIn}
use Rattle.sourceediting.specs.Refusals.{IsKnownAs}
use Rattle.sourceediting.specs.Views.{seen_living, edition_of}
use Rattle.sourceediting.specs.WrittenWith.{IsNotPut}
use Rattle.sourceediting.proofs.Unwritten.{on_unwritten}
use Rattle.sourceediting.proofs.Known.{added_known}
use Rattle.sourceediting.proofs.rearranging.put_added.Goals as goal

pub returns-in_err-text-clause-refused : goal.returns-in_err-text-clause-refused
returns-in_err-text-clause-refused g c = λ living text.
    let edited = map (λ (r : Ranked). r.assertion) c.args.edits.now.planned.edited.now.entries in
    let p = err_from_is_err_and c.from_residual.result c.from_residual.ensures.1 in
    rw (p.1, p.2) (c.in_err-text.ensures.refused living edited text (c.in-None-Some.ensures edited c.requires).0)

pub returns-in_err-text-clause-unwritten : goal.returns-in_err-text-clause-unwritten
returns-in_err-text-clause-unwritten g c = λ voc.
    let edited = map (λ (r : Ranked). r.assertion) c.args.edits.now.planned.edited.now.entries in
    let p = err_from_is_err_and c.from_residual.result c.from_residual.ensures.1 in
    let s = g.D.Declared.scope c.args.declared.now in
    let x = c.args.edits.now in
    let e = edition_of x.planned in
    let living = seen_living x.planned.living.now in
    let is = c.in-None-Some.ensures edited c.requires in
    let k = c.loop-followed.followed-index in
    let b : Bor (List ℕ) = record { ref_ptr = (0, 0); now = [] } in
    let d : Followed = record { source = None; first = b; now = b; moved = false } in
    let f : Followed = get_or x.planned.living.now k d in
    let form = c.has_compressed-is_compressed.result in
    let known = added_known x.planned.living.now k d c.loop-followed-test.true c.in-None-Some.is-0 in
    rw (p.1, p.2)
    (on_unwritten (λ label. (c.in-None-Some.assertion.now.label ≡ label)
    × (CanBePutIn s e living form f.now.now c.in-None-Some.assertion.now → ⊥)) (IsNotPut s x)
    (λ label h. record {
      assertion = c.in-None-Some.assertion.now;
      there = is.0;
      labelled = h.0;
      word = f.now.now;
      is_compressed = form;
      comes = inl (subst (λ w. IsKnownAs living w None) (sym is.1 ∙ h.0) known, sym is.1 ∙ h.0, c.has_compressed-is_compressed.ensures);
      cannot = h.1;
    }) _ (c.in_err-text.ensures.unwritten e living voc))
