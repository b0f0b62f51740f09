use Rattle.std.proofs.Common.{arith, ap, refl, sym, ◌∙◌, subst, None, Some, ◌*◌, ◌+◌, length}
use Rattle.tlwords.specs.Committing.{held_in, Releasing, StoresTo}
use Rattle.tlwords.specs.Commits.{work_kept, writes_kept}
use Rattle.tlwords.proofs.Turns.{seat_trans}
use Rattle.tlwords.proofs.Settles.{done_ends, done_releases, failed_ends, taken_lawful, taken_place, taken_writes, void_ends}
use Rattle.tlwords.proofs.Settles.{void_releases, planned_goes, planned_drawn, planned_stored}
use Rattle.tlwords.proofs.commits.settle.Goals as goal

pub take_all-requires-clause-planned : goal.take_all-requires-clause-planned
take_all-requires-clause-planned g c = c.requires.planned

pub release_all-requires-clause-planned : goal.release_all-requires-clause-planned
release_all-requires-clause-planned g c =
    let l = c.args.log.now in
    planned_goes g.L.Law.terms c.args.words.now c.args.seat.now c.take_all.new.seat _ l l c.requires.planned c.take_all.ensures.seat
    c.in-Err.ensures.err.goes refl refl refl

pub draw-index-requires-clause-seated : goal.draw-index-requires-clause-seated
draw-index-requires-clause-seated g c =
    let l = c.args.log.now in
    (planned_goes g.L.Law.terms c.args.words.now c.args.seat.now c.take_all.new.seat _ l l c.requires.planned c.take_all.ensures.seat
    c.in_default.ensures.ok refl refl refl).seated

pub check_all-requires-clause-planned : goal.check_all-requires-clause-planned
check_all-requires-clause-planned g c =
    let l = c.args.log.now in
    let b = c.take_all in
    let d = c.draw-index in
    let taken = planned_goes g.L.Law.terms c.args.words.now c.args.seat.now b.new.seat _ l l c.requires.planned b.ensures.seat
    c.in_default.ensures.ok refl refl refl in
    planned_drawn g.L.Law.terms c.args.words.now b.new.seat d.new.seat _ d.result l taken d.ensures.seat d.ensures.told

pub release_all-requires-in-Err-check_all-clause-planned : goal.release_all-requires-in-Err-check_all-clause-planned
release_all-requires-in-Err-check_all-clause-planned g c =
    let l = c.args.log.now in
    let b = c.take_all in
    let d = c.draw-index in
    let taken = planned_goes g.L.Law.terms c.args.words.now c.args.seat.now b.new.seat _ l l c.requires.planned b.ensures.seat
    c.in_default.ensures.ok refl refl refl in
    let drawn = planned_drawn g.L.Law.terms c.args.words.now b.new.seat d.new.seat _ d.result l taken d.ensures.seat d.ensures.told in
    let k = c.check_all in
    planned_goes g.L.Law.terms c.args.words.now d.new.seat k.new.seat _ l k.new.log drawn k.ensures.seat
    c.in-Err-check_all.ensures.err.goes refl k.ensures.log.0 k.ensures.log.1

pub store_all-requires-clause-planned : goal.store_all-requires-clause-planned
store_all-requires-clause-planned g c =
    let l = c.args.log.now in
    let b = c.take_all in
    let d = c.draw-index in
    let taken = planned_goes g.L.Law.terms c.args.words.now c.args.seat.now b.new.seat _ l l c.requires.planned b.ensures.seat
    c.in_default.ensures.ok refl refl refl in
    let drawn = planned_drawn g.L.Law.terms c.args.words.now b.new.seat d.new.seat _ d.result l taken d.ensures.seat d.ensures.told in
    let k = c.check_all in
    planned_goes g.L.Law.terms c.args.words.now d.new.seat k.new.seat _ l k.new.log drawn k.ensures.seat
    c.in_default-check_all.ensures.ok.goes refl k.ensures.log.0 k.ensures.log.1

pub release_all-requires-2-clause-planned : goal.release_all-requires-2-clause-planned
release_all-requires-2-clause-planned g c =
    let l = c.args.log.now in
    let b = c.take_all in
    let d = c.draw-index in
    let taken = planned_goes g.L.Law.terms c.args.words.now c.args.seat.now b.new.seat _ l l c.requires.planned b.ensures.seat
    c.in_default.ensures.ok refl refl refl in
    let drawn = planned_drawn g.L.Law.terms c.args.words.now b.new.seat d.new.seat _ d.result l taken d.ensures.seat d.ensures.told in
    let k = c.check_all in
    let checked = planned_goes g.L.Law.terms c.args.words.now d.new.seat k.new.seat _ l k.new.log drawn k.ensures.seat
    c.in_default-check_all.ensures.ok.goes refl k.ensures.log.0 k.ensures.log.1 in
    planned_stored g.L.Law.terms c.args.words.now _ k.new.seat c.store_all.new.seat _ _ _ k.new.log checked c.store_all.ensures.seat
    c.store_all.ensures.stores

pub store_all-requires-clause-held : goal.store_all-requires-clause-held
store_all-requires-clause-held g c =
    let passed = c.in_default-check_all.ensures.ok.goes.is in
    let drawn = c.draw-index.ensures.told.is c.args.note.now refl in (
      ap (λ v. v.seat.held) passed ∙ (ap (λ v. v.seat.held) drawn ∙ (ap (λ v. v.seat.held) c.in_default.ensures.ok.is
          ∙ sym (ap (λ s. held_in s 0 0 (length s)) c.check_all.ensures.log.0))),
      ap (λ v. v.note) passed ∙ ap (λ v. v.note) drawn,
    )

pub store_all-requires-clause-writes : goal.store_all-requires-clause-writes
store_all-requires-clause-writes g c = λ e. c.requires.writes (sym (ap writes_kept c.check_all.ensures.log.0) ∙ e)

pub overflow_mul-number : goal.overflow_mul-number
overflow_mul-number g c = let few = c.draw-index.ensures.told.few in omega arith

pub release_all-requires-in-Err-check_all-clause-high : goal.release_all-requires-in-Err-check_all-clause-high
release_all-requires-in-Err-check_all-clause-high g c =
    let a = ap length c.check_all.ensures.log.0 in let b = c.requires.planned.cells in omega arith

pub release_all-requires-2-clause-high : goal.release_all-requires-2-clause-high
release_all-requires-2-clause-high g c =
    let a = ap length c.check_all.ensures.log.0 in let b = c.requires.planned.cells in omega arith

pub returns-in-Err-clause-ended : goal.returns-in-Err-clause-ended
returns-in-Err-clause-ended g c =
    failed_ends g.L.Law.terms c.args.log.now.slots c.args.note.now c.args.seat.now _ c.args.place c.requires.run c.requires.planned.kept
    c.requires.writes
    c.in-Err.conflict _ c.in-Err.ensures.err c.release_all.new.seat
    (seat_trans c.args.seat.now c.take_all.new.seat c.release_all.new.seat c.take_all.ensures.seat c.release_all.ensures.seat)
    c.release_all.ensures.releases

pub draw-index-requires-clause-lawful : goal.draw-index-requires-clause-lawful
draw-index-requires-clause-lawful g c =
    taken_lawful g.L.Law.terms c.args.log.now.slots c.args.note.now c.args.seat.now _ c.args.place c.requires.run c.requires.planned.kept
    c.requires.writes
    _ c.in_default.ensures.ok c.requires.lawful

pub draw-index-requires-clause-phase : goal.draw-index-requires-clause-phase
draw-index-requires-clause-phase g c =
    taken_place g.L.Law.terms c.args.log.now.slots c.args.note.now c.args.seat.now _ c.args.place c.requires.run c.requires.planned.kept
    c.requires.writes
    _ c.in_default.ensures.ok

pub draw-index-requires-clause-writes : goal.draw-index-requires-clause-writes
draw-index-requires-clause-writes g c = λ e. c.requires.writes
    (sym (taken_writes g.L.Law.terms c.args.log.now.slots c.args.note.now c.args.seat.now _ c.args.place c.requires.run
    c.requires.planned.kept c.requires.writes
    _ c.in_default.ensures.ok) ∙ e)

pub release_all-requires-in-Err-check_all-clause-run : goal.release_all-requires-in-Err-check_all-clause-run
release_all-requires-in-Err-check_all-clause-run g c =
    let r = c.check_all.new.seat.me in
    subst (λ x. Releasing g.L.Law.terms x c.args.words.now.cells None 0 r r) (sym c.check_all.ensures.log.0)
    (void_releases g.L.Law.terms c.args.log.now.slots c.args.note.now c.args.seat.now _ c.args.place c.requires.run c.requires.planned.kept
    c.requires.writes
    _ c.in_default.ensures.ok _ c.draw-index.result c.draw-index.ensures.told
    c.in-Err-check_all.conflict _ c.in-Err-check_all.ensures.err c.args.words.now.cells (sym c.requires.planned.cells))

pub returns-in-Err-check_all-clause-ended : goal.returns-in-Err-check_all-clause-ended
returns-in-Err-check_all-clause-ended g c =
    let t = c.args.seat.now in
    let b = c.take_all in
    let d = c.draw-index in
    let k = c.check_all in
    let same = seat_trans t d.new.seat k.new.seat (seat_trans t b.new.seat d.new.seat b.ensures.seat d.ensures.seat) k.ensures.seat in
    let q = c.release_all-in-Err-check_all in
    void_ends g.L.Law.terms c.args.log.now.slots c.args.note.now c.args.seat.now _ c.args.place c.requires.run c.requires.planned.kept
    c.requires.writes
    _ c.in_default.ensures.ok _ c.draw-index.result c.draw-index.ensures.told
    c.in-Err-check_all.conflict _ c.in-Err-check_all.ensures.err q.new.seat (seat_trans t k.new.seat q.new.seat same q.ensures.seat)
    q.ensures.releases _ (omega arith) c.requires.room

pub release_all-requires-2-clause-run : goal.release_all-requires-2-clause-run
release_all-requires-2-clause-run g c =
    let e = c.check_all.ensures.log in
    let m = c.check_all.new.seat.me in
    let r = c.store_all.new.seat.me in
    let st = subst (λ x. StoresTo g.L.Law.terms x c.draw-index.result (work_kept m.0.seat x c.args.note.now) (length x) m r) e.0
    c.store_all.ensures.stores in
    subst (λ x. Releasing g.L.Law.terms x c.args.words.now.cells (Some (2 * (c.draw-index.result + 1))) 0 r r) (sym e.0)
    (done_releases g.L.Law.terms c.args.log.now.slots c.args.note.now c.args.seat.now _ c.args.place c.requires.run c.requires.planned.kept
    c.requires.writes
    _ c.in_default.ensures.ok _ c.draw-index.result c.draw-index.ensures.told
    _ c.in_default-check_all.ensures.ok _ st c.args.words.now.cells _ (sym c.requires.planned.cells) (omega arith))

pub returns-clause-ended : goal.returns-clause-ended
returns-clause-ended g c =
    let t = c.args.seat.now in
    let b = c.take_all in
    let d = c.draw-index in
    let k = c.check_all in
    let same = seat_trans t d.new.seat k.new.seat (seat_trans t b.new.seat d.new.seat b.ensures.seat d.ensures.seat) k.ensures.seat in
    let e = c.check_all.ensures.log in
    let m = c.check_all.new.seat.me in
    let r = c.store_all.new.seat.me in
    let st = subst (λ x. StoresTo g.L.Law.terms x c.draw-index.result (work_kept m.0.seat x c.args.note.now) (length x) m r) e.0
    c.store_all.ensures.stores in
    let z = c.store_all in
    let q = c.release_all-2 in
    done_ends g.L.Law.terms c.args.log.now.slots c.args.note.now c.args.seat.now _ c.args.place c.requires.run c.requires.planned.kept
    c.requires.writes
    _ c.in_default.ensures.ok _ c.draw-index.result c.draw-index.ensures.told
    _ c.in_default-check_all.ensures.ok _ st q.new.seat
    (seat_trans t z.new.seat q.new.seat (seat_trans t k.new.seat z.new.seat same z.ensures.seat) q.ensures.seat) q.ensures.releases _
    (omega arith)
    c.requires.room
