use Rattle.std.proofs.Common.{arith, refl, sym, subst, ◌≤◌, ◌+◌, length, List, [], true}
use Rattle.tlcore.specs.Seats.{Seat}
use Rattle.tlcore.specs.declared.seats.Held.{Held}
use Rattle.tlcore.specs.declared.seats.Phase.TheVariants.{Reading, Taking}
use Rattle.tlwords.specs.Walks.{low_of}
use Rattle.tlwords.specs.Committing.{held_in, locking, Goes}
use Rattle.tlwords.proofs.Held.{held_on}
use Rattle.tlwords.proofs.Plans.{plan_at, plan_next, plan_low, plan_end}
use Rattle.tlwords.proofs.Turns.{unkept_of, read_found, goes_start, goes_seated, goes_rights, goes_read, seat_trans, take_place}
use Rattle.tlwords.proofs.Turns.{take_goes, take_fails}
use Rattle.tlwords.proofs.commits.take_all.Goals as goal

pub loop-i-init : goal.loop-i-init
loop-i-init g c = (
  (refl, refl, refl),
  goes_start g.L.Law.terms c.args.seat.now.me (locking c.args.seat.now.me.0.seat Taking Reading [])
      (λ j. let t : Seat = record c.args.seat.now.me.0.seat { phase = sym c.requires.run.0 j; held = sym c.requires.run.1 j } in t),
)

pub take-found-requires-clause-seated : goal.take-found-requires-clause-seated
take-found-requires-clause-seated g c =
    goes_seated g.L.Law.terms _ _ _ _ c.requires.planned.seated c.loop-i.invariant.0 c.loop-i.invariant.1

pub take-found-requires-clause-cell : goal.take-found-requires-clause-cell
take-found-requires-clause-cell g c =
    let ws = c.args.log.now.writes.items in
    let t = c.index.result.now in
    let s = plan_at c.args.log.now.slots true ws c.requires.planned.plan c.loop-i.i _ _ t c.loop-i-test.true c.len-i-end.ensures
    c.args.log.now.writes.ok.0
    c.index.ensures in
    let l = s.0.1 in
    let p = c.requires.planned.cells in
    omega arith

pub take-found-requires-clause-phase : goal.take-found-requires-clause-phase
take-found-requires-clause-phase g c =
    let ws = c.args.log.now.writes.items in
    let t = c.index.result.now in
    let s = plan_at c.args.log.now.slots true ws c.requires.planned.plan c.loop-i.i _ _ t c.loop-i-test.true c.len-i-end.ensures
    c.args.log.now.writes.ok.0
    c.index.ensures in
    take_place g.L.Law.terms c.args.log.now.slots _ _ (low_of ws c.loop-i.i) c.loop-i.invariant.1 t.cell s.0.0

pub take-found-requires-clause-read : goal.take-found-requires-clause-read
take-found-requires-clause-read g c =
    let ws = c.args.log.now.writes.items in
    let t = c.index.result.now in
    let s = plan_at c.args.log.now.slots true ws c.requires.planned.plan c.loop-i.i _ _ t c.loop-i-test.true c.len-i-end.ensures
    c.args.log.now.writes.ok.0
    c.index.ensures in
    let d = read_found c.args.seat.now.me.0.seat c.args.log.now.slots c.requires.planned.kept t.cell t.word s.1 in
    (d.0, goes_read g.L.Law.terms _ _ _ c.loop-i.invariant.1 refl t.cell d.0 d.1, d.2)

pub take-found-requires-clause-room : goal.take-found-requires-clause-room
take-found-requires-clause-room g c =
    let ws = c.args.log.now.writes.items in
    let t = c.index.result.now in
    let s = plan_at c.args.log.now.slots true ws c.requires.planned.plan c.loop-i.i _ _ t c.loop-i-test.true c.len-i-end.ensures
    c.args.log.now.writes.ok.0
    c.index.ensures in
    let even = c.requires.planned.kept.2 t.cell t.word s.1 in
    let same = goes_rights g.L.Law.terms _ _ _ c.loop-i.invariant.1 in
    let enough = c.requires.run.2 in
    (omega arith, omega arith)

pub returns-then-found-word-clause-seat : goal.returns-then-found-word-clause-seat
returns-then-found-word-clause-seat g c =
    seat_trans c.args.seat.now c.loop-i.seat c.take-found.new.seat c.loop-i.invariant.0 c.take-found.ensures.seat

pub returns-then-found-word-clause-err : goal.returns-then-found-word-clause-err
returns-then-found-word-clause-err g c =
    let ws = c.args.log.now.writes.items in
    let t = c.index.result.now in
    let s = plan_at c.args.log.now.slots true ws c.requires.planned.plan c.loop-i.i _ _ t c.loop-i-test.true c.len-i-end.ensures
    c.args.log.now.writes.ok.0
    c.index.ensures in
    take_fails g.L.Law.terms c.args.log.now.slots _ _ (low_of ws c.loop-i.i) c.loop-i.invariant.1 t.cell t.value t.word
    c.take-found.result _ s.0.0 (unkept_of c.args.seat.now.me.0.seat c.args.log.now.slots c.requires.planned.kept _ _ s.0.3)
    c.take-found.ensures.told _ refl s.0.1 s.1 c.if-found-word.true

pub loop-i-preserved : goal.loop-i-preserved
loop-i-preserved g c =
    let ws = c.args.log.now.writes.items in
    let t = c.index.result.now in
    let s = plan_at c.args.log.now.slots true ws c.requires.planned.plan c.loop-i.i _ _ t c.loop-i-test.true c.len-i-end.ensures
    c.args.log.now.writes.ok.0
    c.index.ensures in
    let m = c.args.seat.now.me in (
      seat_trans c.args.seat.now c.loop-i.seat c.take-found.new.seat c.loop-i.invariant.0 c.take-found.ensures.seat,
      subst (λ k. Goes g.L.Law.terms m (locking m.0.seat Taking Reading (held_in c.args.log.now.slots 0 0 k))
          c.take-found.new.seat.me)
          {x = t.cell + 1} {y = low_of ws (c.loop-i.i + 1)}
          (sym (plan_next c.args.log.now.slots true ws c.requires.planned.plan c.loop-i.i _ _ t c.loop-i-test.true c.len-i-end.ensures
          c.args.log.now.writes.ok.0
          c.index.ensures))
          (take_goes g.L.Law.terms c.args.log.now.slots _ _ (low_of ws c.loop-i.i) c.loop-i.invariant.1 t.cell t.value t.word
          c.take-found.result _ s.0.0 (unkept_of m.0.seat c.args.log.now.slots c.requires.planned.kept _ _ s.0.3) c.take-found.ensures.told
          (s.2 refl) s.1 c.if-found-word.false),
    )

pub returns-clause-seat : goal.returns-clause-seat
returns-clause-seat g c = c.loop-i.invariant.0

pub returns-clause-ok : goal.returns-clause-ok
returns-clause-ok g c =
    let ws = c.args.log.now.writes.items in
    let d = c.args.log.now.writes.ok.0 in
    let b = c.len-i-end.ensures in
    let past : length ws ≤ c.loop-i.i = let a = c.loop-i-test.false in omega arith in
    let all : c.loop-i.i ≤ length ws = let a = c.loop-i.auto.i-end in omega arith in
    let none = plan_end c.args.log.now.slots true ws c.requires.planned.plan c.loop-i.i past all in
    let m = c.args.seat.now.me in
    subst (λ (ks : List Held). Goes g.L.Law.terms m (locking m.0.seat Taking Reading ks) c.loop-i.seat.me)
    {x = held_in c.args.log.now.slots 0 0 (low_of ws c.loop-i.i)} {y = held_in c.args.log.now.slots 0 0 (length c.args.log.now.slots)}
    (sym (held_on c.args.log.now.slots 0 0 (low_of ws c.loop-i.i) (length c.args.log.now.slots)
    (plan_low c.args.log.now.slots true ws c.requires.planned.plan c.loop-i.i all)
    (unkept_of m.0.seat c.args.log.now.slots c.requires.planned.kept _ _ none)))
    c.loop-i.invariant.1
