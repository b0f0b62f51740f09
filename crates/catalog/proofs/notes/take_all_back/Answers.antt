use Rattle.std.proofs.Common.{◌≡◌, ℕ, ◌+◌, ◌-◌, ◌≤◌, ◌<◌, List, ◌∷◌, ◌++◌, [], Some, length, take, get_or, sym, ap, subst, ◌∙◌, arith}
use Rattle.std.specs.List.{slice_get}
use Rattle.std.specs.Option.{option_map}
use Rattle.std.proofs.lemmas.List.{take_more, take-set, length-set, map-set}
use Rattle.std.proofs.lemmas.Option.{slice_get-get_or, slice_get-map}
use Rattle.catalog.specs.declared.notes.Note.{Note}
use Rattle.catalog.specs.Places.{HasOnly}
use Rattle.catalog.specs.Changes.{CanUndo, undone, formers, taken_back}
use Rattle.catalog.proofs.Undoing.{can_undo-split, can_undo-kept, undone-push, only-fewer, only-exchanged}
use Rattle.catalog.proofs.notes.take_all_back.Goals as goal

take_last : (ns : List Note) (left : ℕ) (d : Note) → 0 < left → left ≤ length ns
    → take left ns ≡ take (left - 1) ns ++ get_or ns (left - 1) d ∷ []
take_last ns left d some within =
    let back : left ≡ left - 1 + 1 = omega arith in
    ap (λ n. take n ns) back ∙ take_more ns (left - 1) d (omega arith)

pub take_back-requires-clause-can : goal.take_back-requires-clause-can
take_back-requires-clause-can c =
    let x = c.loop-left in
    let d = c.index-notes-left.result in
    let last = take_last x.notes x.left d c.loop-left-test.true x.invariant.within in
    (can_undo-split x.places (take (x.left - 1) x.notes) (get_or x.notes (x.left - 1) d) x.entries (subst
    (λ ns. CanUndo x.places ns x.entries) last x.invariant.can)).1

pub loop-left-preserved : goal.loop-left-preserved
loop-left-preserved c =
    let x = c.loop-left in
    let k = x.left - 1 in
    let d = c.index-notes-left.result in
    let n = get_or x.notes k d in
    let m = c.take_back.new.places in
    let new = c.take_back.new.note in
    let last = take_last x.notes x.left d c.loop-left-test.true x.invariant.within in
    let split = can_undo-split x.places (take k x.notes) n x.entries (subst (λ ns. CanUndo x.places ns x.entries) last x.invariant.can) in
    let can = can_undo-kept x.places m (take k x.notes) (taken_back n x.entries) c.take_back.ensures.labels split.0 in
    let same = sym (undone-push (take k x.notes) n x.entries) ∙ ap (λ ns. undone ns x.entries) (sym last) ∙ x.invariant.same in
    let within = x.invariant.within in
    let inside : k < length x.notes = (let some = c.loop-left-test.true in omega arith) in
    let at : slice_get (formers x.notes) k ≡ Some n.former =
    slice_get-map (λ (y : Note). y.former) x.notes k ∙ ap (option_map (λ (y : Note). y.former)) (slice_get-get_or x.notes k d inside) in
    let only =
    only-exchanged m x.entries (formers x.notes) n.place k new.former n.former c.take_back.ensures.noted at (only-fewer x.places m x.entries
    (formers x.notes) c.take_back.ensures.fewer x.invariant.only) in
    record {
      within = omega (arith, length-set x.notes k new);
      indexed = c.take_back.ensures.indexed;
      fewer = record { keeps = λ q some. x.invariant.fewer.keeps q (c.take_back.ensures.fewer.keeps q some) };
      only = rw c.take_back.ensures.entries
          (subst (HasOnly m (taken_back n x.entries)) (sym (map-set (λ (y : Note). y.former) x.notes k new)) only);
      can = rw (take-set x.notes k new, c.take_back.ensures.entries) can;
      same = rw (take-set x.notes k new, c.take_back.ensures.entries) same;
    }
