use Rattle.std.proofs.Common.{◌≡◌, Option, None, Some, set, get_or, refl, sym, ap, subst, ◌∙◌}
use Rattle.std.proofs.lemmas.Option.{slice_get-get_or}
use Rattle.library.specs.declared.library.Ranked.{Ranked}
use Rattle.library.specs.Library.{label_of}
use Rattle.catalog.specs.declared.notes.Note.{Note}
use Rattle.catalog.specs.Places.{IsIndex, Puts}
use Rattle.catalog.proofs.Indexes.{PutsAt, stand-alone, index-set}
use Rattle.catalog.proofs.notes.take_back.Goals as goal
use Rattle.catalog.proofs.notes.take_back.Goals.{in-Some, in_default}

pub returns-clause-indexed : goal.returns-clause-indexed
returns-clause-indexed c =
    let m = c.args.places.now in
    let es = c.args.entries.now in
    let note = c.args.note.now in
    let n = c.match-note.places in
    let puts : PutsAt m note.former note.place n = elim c.match-note.branch [
      | in-Some w ↦
          let put = subst (λ l. Puts m l note.place w.put_place.new.places) w.as_slice.ensures w.put_place.ensures in
          subst (λ (o : Option Ranked). PutsAt m o note.place n) (sym w.in-Some.is)
          (subst (λ x. Puts m (label_of w.in-Some.former) note.place x) (sym w.places-is) put)
      | in_default w ↦
          subst (λ (o : Option Ranked). PutsAt m o note.place n) (sym w.in_default.is)
          (subst (λ x. PutsAt m None note.place x) (sym w.places-is) (λ q. refl))
    ] in
    let same : c.match-note.note ≡ note = elim c.match-note.branch [ in-Some w ↦ w.note-is | in_default w ↦ w.note-is ] in
    let indexed =
    index-set m n es note.place note.former c.requires.indexed (stand-alone m es note.place note.former c.requires.can.stands) puts in
    rw c.swap.ensures.x_after (subst (λ (k : Note). IsIndex n (set es k.place k.former)) (sym same) indexed)

pub returns-clause-noted : goal.returns-clause-noted
returns-clause-noted c =
    let es = c.args.entries.now in
    let note = c.args.note.now in
    let d = c.index-entries-note.result in
    let same : c.match-note.note ≡ note = elim c.match-note.branch [ in-Some w ↦ w.note-is | in_default w ↦ w.note-is ] in
    slice_get-get_or es note.place d c.requires.can.within
    ∙ ap (λ x. Some x) (ap (λ (k : Note). get_or es k.place d) (sym same) ∙ sym c.swap.ensures.y_after)
