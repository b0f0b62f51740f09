use Rattle.std.proofs.Common.{◌≡◌, inl, inr, arith, min, refl, ◌∙◌, subst, length, Some, ◌+◌, ◌<◌, ◌≤◌}
use Rattle.tlcore.specs.Seats.{reads_of}
use Rattle.tlwords.specs.Known.{known_of, going_of}
use Rattle.tlwords.specs.Calls.{HasStaged, IsRefused}
use Rattle.tlwords.proofs.Knows.{known_setting}
use Rattle.tlwords.proofs.Turns.{seat_trans}
use Rattle.tlwords.proofs.Fillings.{no_refusal, refuse_tells, stage_tells, staged_is, staged_sees, store_runs}
use Rattle.tlwords.proofs.runs.Run.stage.Goals.{then-words-room-via-then-words-room, then-words-room-via-else-words-room+then-start-room}
use Rattle.tlwords.proofs.runs.Run.stage.Goals as goal

pub returns-then-self-clause-err : goal.returns-then-self-clause-err
returns-then-self-clause-err g c =
    let s = c.self.inside in
    let p = known_setting s.seat.me.0.full (c.self.invariant.knows.full ∙ c.if-self.true) in
    subst (λ x. IsRefused g.L.Law.terms (length c.args.words.now) x x) c.self.view_is (inl (p.0, p.1, refl))

pub invariant_of-self : goal.invariant_of-self
invariant_of-self g c =
    let s = c.self.inside in
    let room = c.self.invariant.room_is in
    let e = c.advance-start.ensures in
    let count = length c.args.words.now in
    let more : s.seat.me.0.room < c.advance-start.result + length c.args.words.now = elim c.then-words-room.branch [
      | then-words-room-via-then-words-room w ↦ let a = w.if-words-room.true in omega arith
      | then-words-room-via-else-words-room+then-start-room w ↦ let a = w.if-start-room.true in let b = w.if-words-room.false in omega arith
    ] in
    store_runs g.L.Law.terms _ _ _ _ _ s.mode s.over s.full s.log.slots s.seat c.advance-start.new.seat c.self.invariant e.seat e.told.sees
    (Some (c.advance-start.result, count)) s.seat.me.0.taken (min count (s.seat.me.0.room + 1)) (e.told.refused more) _ refl

pub returns-then-words-room-clause-err : goal.returns-then-words-room-clause-err
returns-then-words-room-clause-err g c =
    let s = c.self.inside in
    let i = c.self.invariant in
    let room = i.room_is in
    let e = c.advance-start.ensures in
    let r = c.advance-start.new.seat in
    let more : s.seat.me.0.room < c.advance-start.result + length c.args.words.now = elim c.then-words-room.branch [
      | then-words-room-via-then-words-room w ↦ let a = w.if-words-room.true in omega arith
      | then-words-room-via-else-words-room+then-start-room w ↦ let a = w.if-start-room.true in let b = w.if-words-room.false in omega arith
    ] in
    subst (λ x. IsRefused g.L.Law.terms (length c.args.words.now) x (going_of r.table_id r.me.0 s.place s.mode s.over s.log.slots))
    c.self.view_is
    (inr (
      c.advance-start.result,
      refuse_tells g.L.Law.terms _ _ _ _ _ s.mode s.over s.full s.log.slots s.seat r i e.seat e.told.sees (length c.args.words.now)
          c.advance-start.result (no_refusal g.L.Law.terms _ _ i.knows.full c.if-self.false) more (e.told.refused more),
    ))

pub invariant_of-self-2 : goal.invariant_of-self-2
invariant_of-self-2 g c =
    let s = c.self.inside in
    let i = c.self.invariant in
    let room = i.room_is in
    let r = c.fill_all.new.seat in
    let a = c.advance-start in
    let ws = c.args.words.now in
    let l : c.advance-start.result + length c.args.words.now ≤ s.seat.me.0.room =
    let a = c.if-words-room.false in let b = c.if-start-room.false in omega arith in
    store_runs g.L.Law.terms _ _ _ _ _ s.mode s.over s.full s.log.slots s.seat r i (seat_trans s.seat a.new.seat r a.ensures.seat
    c.fill_all.ensures.seat)
    (staged_sees g.L.Law.terms ws a.result s.seat.me a.new.seat.me r.me i.knows.at_rest l a.ensures.told c.fill_all.ensures.finished)
    s.seat.me.0.full
    (s.seat.me.0.taken + length ws) s.seat.me.0.added
    (staged_is g.L.Law.terms ws a.result s.seat.me a.new.seat.me r.me i.knows.at_rest l a.ensures.told c.fill_all.ensures.finished)
    s.full i.knows.full

pub returns-clause-ok : goal.returns-clause-ok
returns-clause-ok g c =
    let s = c.self.inside in
    let i = c.self.invariant in
    let room = i.room_is in
    let r = c.fill_all.new.seat in
    let a = c.advance-start in
    let ws = c.args.words.now in
    let l : c.advance-start.result + length c.args.words.now ≤ s.seat.me.0.room =
    let a = c.if-words-room.false in let b = c.if-start-room.false in omega arith in (
      refl,
      subst (λ x. HasStaged g.L.Law.terms ws a.result x (going_of r.table_id r.me.0 s.place s.mode s.over s.log.slots)) c.self.view_is
          (stage_tells g.L.Law.terms _ _ _ _ _ s.mode s.over s.full s.log.slots s.seat r i
          (seat_trans s.seat a.new.seat r a.ensures.seat c.fill_all.ensures.seat)
          (staged_sees g.L.Law.terms ws a.result s.seat.me a.new.seat.me r.me i.knows.at_rest l a.ensures.told
          c.fill_all.ensures.finished) ws a.result
          (staged_is g.L.Law.terms ws a.result s.seat.me a.new.seat.me r.me i.knows.at_rest l a.ensures.told c.fill_all.ensures.finished)
          (no_refusal g.L.Law.terms _ _ i.knows.full c.if-self.false) l c.fill_all.ensures.finished.finished),
    )

pub returns-then-words-room-clause-same : goal.returns-then-words-room-clause-same
returns-then-words-room-clause-same g c =
    let s = c.self.inside in
    let room = c.self.invariant.room_is in
    let more : s.seat.me.0.room < c.advance-start.result + length c.args.words.now = elim c.then-words-room.branch [
      | then-words-room-via-then-words-room w ↦ let a = w.if-words-room.true in omega arith
      | then-words-room-via-else-words-room+then-start-room w ↦ let a = w.if-start-room.true in let b = w.if-words-room.false in omega arith
    ] in
    let e = c.advance-start.ensures in
    let is = e.told.refused more in
    let r = c.advance-start.new.seat in
    let k = known_of r.table_id r.me.0 in
    subst (λ x. (k.home ≡ x.known.home) × (going_of r.table_id r.me.0 s.place s.mode s.over s.log.slots ≡ record x { known = k }))
    c.self.view_is (
      (λ j. (known_of (e.seat.0 j) (is j)).home),
      (λ j. record { known = k; place = s.place; mode = s.mode; over = s.over; reads = reads_of (is j).seat.reads; slots = s.log.slots }),
    )

pub returns-clause-same : goal.returns-clause-same
returns-clause-same g c =
    let s = c.self.inside in
    let i = c.self.invariant in
    let room = i.room_is in
    let r = c.fill_all.new.seat in
    let a = c.advance-start in
    let ws = c.args.words.now in
    let l : c.advance-start.result + length c.args.words.now ≤ s.seat.me.0.room =
    let a = c.if-words-room.false in let b = c.if-start-room.false in omega arith in
    let is = staged_is g.L.Law.terms ws a.result s.seat.me a.new.seat.me r.me i.knows.at_rest l a.ensures.told
    c.fill_all.ensures.finished in
    let k = known_of r.table_id r.me.0 in
    subst (λ x. (k.home ≡ x.known.home) × (going_of r.table_id r.me.0 s.place s.mode s.over s.log.slots ≡ record x { known = k }))
    c.self.view_is (
      (λ j. (known_of ((c.fill_all.ensures.seat.0 ∙ a.ensures.seat.0) j) (is j)).home),
      (λ j. record { known = k; place = s.place; mode = s.mode; over = s.over; reads = reads_of (is j).seat.reads; slots = s.log.slots }),
    )
