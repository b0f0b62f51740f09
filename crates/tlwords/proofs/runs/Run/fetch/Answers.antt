use Rattle.std.proofs.Common.{◌≡◌, Some, ap, sym, subst}
use Rattle.tlwords.specs.Runs.{word_seen}
use Rattle.tlwords.specs.Known.{going_of}
use Rattle.tlwords.specs.Calls.{HasRead, HasStopped}
use Rattle.tlwords.proofs.RunSteps.{look_stops, read_steps, read_stops, read_runs, read_tells, stop_runs, stop_tells}
use Rattle.tlwords.proofs.Modes.{notes}
use Rattle.tlwords.proofs.Turns.{seat_trans}
use Rattle.tlwords.proofs.runs.Run.fetch.Goals as goal

pub invariant_of-self : goal.invariant_of-self
invariant_of-self g c =
    let s = c.self.inside in
    let r = c.look-word in
    let t = look_stops g.L.Law.terms c.args.cell s.place s.seat.me r.new.seat.me c.self.invariant.fits.5 r.result r.ensures.told
    (c.passes.ensures.no c.if-not-passes.true) in
    stop_runs g.L.Law.terms _ _ _ _ _ s.mode s.over s.full s.log.slots s.seat r.new.seat c.self.invariant r.ensures.seat c.args.cell
    r.result
    t.0 t.3

pub returns-then-not-passes-clause-err : goal.returns-then-not-passes-clause-err
returns-then-not-passes-clause-err g c =
    let s = c.self.inside in
    let r = c.look-word in
    let t = look_stops g.L.Law.terms c.args.cell s.place s.seat.me r.new.seat.me c.self.invariant.fits.5 r.result r.ensures.told
    (c.passes.ensures.no c.if-not-passes.true) in
    subst
    (λ x. HasStopped g.L.Law.terms c.args.cell (record { cell = c.args.cell; word = r.result; before = c.args.before }) x
    (going_of r.new.seat.table_id r.new.seat.me.0 s.place s.mode (Some
    (record { cell = c.args.cell; word = r.result; before = c.args.before }))
    s.log.slots)) c.self.view_is
    (stop_tells g.L.Law.terms _ _ _ _ _ s.mode s.over s.full s.log.slots s.seat r.new.seat c.self.invariant r.ensures.seat c.args.cell
    r.result t.0 t.3
    c.args.before t.1 t.2 (subst (λ x. word_seen x.slots c.args.cell ≡ c.args.before) (sym c.self.view_is) c.requires.before))

pub invariant_of-self-then-again-word : goal.invariant_of-self-then-again-word
invariant_of-self-then-again-word g c =
    let s = c.self.inside in
    let m = c.look-word in
    let v = c.load-value in
    let r = c.relook-again in
    let w = c.passes.ensures.yes c.if-not-passes.false in
    let t = read_stops g.L.Law.terms c.args.cell s.place s.seat.me m.new.seat.me c.self.invariant.fits.5 m.result m.ensures.told w.0 w.1
    v.new.seat.me v.result v.ensures.told r.new.seat.me r.result r.ensures.told c.if-again-word.true in
    let same = seat_trans s.seat v.new.seat r.new.seat (seat_trans s.seat m.new.seat v.new.seat m.ensures.seat v.ensures.seat)
    r.ensures.seat in
    stop_runs g.L.Law.terms _ _ _ _ _ s.mode s.over s.full s.log.slots s.seat r.new.seat c.self.invariant same c.args.cell r.result
    t.0 t.3

pub returns-then-again-word-clause-err : goal.returns-then-again-word-clause-err
returns-then-again-word-clause-err g c =
    let s = c.self.inside in
    let m = c.look-word in
    let v = c.load-value in
    let r = c.relook-again in
    let w = c.passes.ensures.yes c.if-not-passes.false in
    let t = read_stops g.L.Law.terms c.args.cell s.place s.seat.me m.new.seat.me c.self.invariant.fits.5 m.result m.ensures.told w.0 w.1
    v.new.seat.me v.result v.ensures.told r.new.seat.me r.result r.ensures.told c.if-again-word.true in
    let same = seat_trans s.seat v.new.seat r.new.seat (seat_trans s.seat m.new.seat v.new.seat m.ensures.seat v.ensures.seat)
    r.ensures.seat in
    subst
    (λ x. HasStopped g.L.Law.terms c.args.cell (record { cell = c.args.cell; word = r.result; before = c.args.before }) x
    (going_of r.new.seat.table_id r.new.seat.me.0 s.place s.mode (Some
    (record { cell = c.args.cell; word = r.result; before = c.args.before }))
    s.log.slots)) c.self.view_is
    (stop_tells g.L.Law.terms _ _ _ _ _ s.mode s.over s.full s.log.slots s.seat r.new.seat c.self.invariant same c.args.cell r.result t.0
    t.3
    c.args.before t.1 t.2 (subst (λ x. word_seen x.slots c.args.cell ≡ c.args.before) (sym c.self.view_is) c.requires.before))

pub invariant_of-self-2 : goal.invariant_of-self-2
invariant_of-self-2 g c =
    let s = c.self.inside in
    let m = c.look-word in
    let v = c.load-value in
    let r = c.relook-again in
    let w = c.passes.ensures.yes c.if-not-passes.false in
    let t = read_steps g.L.Law.terms c.args.cell s.place s.seat.me m.new.seat.me c.self.invariant.fits.5 m.result m.ensures.told w.0 w.1
    v.new.seat.me v.result v.ensures.told r.new.seat.me r.result r.ensures.told c.if-again-word.false in
    let same = seat_trans s.seat v.new.seat r.new.seat (seat_trans s.seat m.new.seat v.new.seat m.ensures.seat v.ensures.seat)
    r.ensures.seat in
    let after = c.note.new.self.slots in
    let n = notes s.mode s.log.slots after c.args.cell m.result (λ m. ap (λ l. l.slots) (c.note.ensures.reading m))
    c.note.ensures.writing in
    read_runs g.L.Law.terms _ _ _ _ _ s.mode s.over s.full s.log.slots s.seat r.new.seat c.self.invariant same c.args.cell m.result t.0
    v.result t.2
    after n

pub returns-clause-ok : goal.returns-clause-ok
returns-clause-ok g c =
    let s = c.self.inside in
    let m = c.look-word in
    let v = c.load-value in
    let r = c.relook-again in
    let w = c.passes.ensures.yes c.if-not-passes.false in
    let t = read_steps g.L.Law.terms c.args.cell s.place s.seat.me m.new.seat.me c.self.invariant.fits.5 m.result m.ensures.told w.0 w.1
    v.new.seat.me v.result v.ensures.told r.new.seat.me r.result r.ensures.told c.if-again-word.false in
    let same = seat_trans s.seat v.new.seat r.new.seat (seat_trans s.seat m.new.seat v.new.seat m.ensures.seat v.ensures.seat)
    r.ensures.seat in
    let after = c.note.new.self.slots in
    let n = notes s.mode s.log.slots after c.args.cell m.result (λ m. ap (λ l. l.slots) (c.note.ensures.reading m))
    c.note.ensures.writing in
    subst (λ x. HasRead g.L.Law.terms c.args.cell v.result x (going_of r.new.seat.table_id r.new.seat.me.0 s.place s.mode s.over after))
    c.self.view_is
    (read_tells g.L.Law.terms _ _ _ _ _ s.mode s.over s.full s.log.slots s.seat r.new.seat c.self.invariant same c.args.cell m.result t.0
    v.result t.2
    after n w.0 w.1 t.1)
