use Rattle.std.proofs.Common.{List, subst}
use Rattle.catalog.specs.declared.notes.Note.{Note}
use Rattle.catalog.specs.Places.{HasOnly}
use Rattle.catalog.specs.Changes.{formers}
use Rattle.catalog.proofs.Undoing.{only-forgot}
use Rattle.catalog.proofs.notes.drop_notes.Goals as goal

pub loop-note-preserved : goal.loop-note-preserved
loop-note-preserved c =
    let m = c.loop-note.places in
    let n = c.forget_note.new.places in
    let es = c.args.entries.now in
    let was = subst (λ (ns : List Note). HasOnly m es (formers ns)) c.in-Some.ensures.items c.loop-note.invariant.only in
    record {
      indexed = c.forget_note.ensures.indexed;
      only = only-forgot m n es c.pop.new.self.items c.in-Some.note c.forget_note.ensures.fewer c.forget_note.ensures.gone was;
      trunks = c.forget_note.ensures.trunks;
    }
