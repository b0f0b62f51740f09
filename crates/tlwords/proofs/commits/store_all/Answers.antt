use Rattle.std.proofs.Common.{arith, refl, inl, sym, subst, ◌≤◌, ◌+◌, length, true}
use Rattle.tlwords.specs.Walks.{low_of}
use Rattle.tlwords.proofs.Plans.{plan_at, plan_next, plan_end}
use Rattle.tlwords.proofs.Turns.{seated_on, seat_trans, unkept_of}
use Rattle.tlwords.proofs.Stores.{StoresSoFar, store_same, store_place, store_held, store_goes, store_ends}
use Rattle.tlwords.proofs.commits.store_all.Goals as goal

pub loop-i-init : goal.loop-i-init
loop-i-init g c = ((refl, refl, refl), inl (refl, λ x a b. absurd (omega arith)))

pub store-requires-clause-seated : goal.store-requires-clause-seated
store-requires-clause-seated g c =
    let ws = c.args.log.now.writes.items in
    let same = store_same g.L.Law.terms c.args.log.now.slots c.args.index c.args.note.now c.args.seat.now.me _ c.requires.run.1
    c.requires.held.0
    (low_of ws c.loop-i.i) _ c.loop-i.invariant.1 in
    seated_on c.args.words.now c.args.seat.now c.loop-i.seat c.requires.planned.seated c.loop-i.invariant.0 same.0 same.1

pub store-requires-clause-cell : goal.store-requires-clause-cell
store-requires-clause-cell g c =
    let ws = c.args.log.now.writes.items in
    let t = c.index-kept.result.now in
    let s = plan_at c.args.log.now.slots true ws c.requires.planned.plan c.loop-i.i _ _ t c.loop-i-test.true c.len-i-end.ensures
    c.args.log.now.writes.ok.0
    c.index-kept.ensures in
    let l = s.0.1 in
    let p = c.requires.planned.cells in
    omega arith

pub store-requires-clause-phase : goal.store-requires-clause-phase
store-requires-clause-phase g c =
    let ws = c.args.log.now.writes.items in
    store_place g.L.Law.terms c.args.log.now.slots c.args.index c.args.note.now c.args.seat.now.me _ c.requires.run.1 c.requires.held.0
    (low_of ws c.loop-i.i) _
    c.loop-i.invariant.1 c.requires.run.2

pub store-requires-clause-held : goal.store-requires-clause-held
store-requires-clause-held g c =
    let ws = c.args.log.now.writes.items in
    let t = c.index-kept.result.now in
    let s = plan_at c.args.log.now.slots true ws c.requires.planned.plan c.loop-i.i _ _ t c.loop-i-test.true c.len-i-end.ensures
    c.args.log.now.writes.ok.0
    c.index-kept.ensures in
    store_held g.L.Law.terms c.args.log.now.slots c.args.index c.args.note.now c.args.seat.now.me _ c.requires.run.1 c.requires.held.0
    (low_of ws c.loop-i.i) _
    c.loop-i.invariant.1 t.cell t.value s.0.1 (s.2 refl)

pub loop-i-preserved : goal.loop-i-preserved
loop-i-preserved g c =
    let ws = c.args.log.now.writes.items in
    let t = c.index-kept.result.now in
    let s = plan_at c.args.log.now.slots true ws c.requires.planned.plan c.loop-i.i _ _ t c.loop-i-test.true c.len-i-end.ensures
    c.args.log.now.writes.ok.0
    c.index-kept.ensures in
    let m = c.args.seat.now.me in (
      seat_trans c.args.seat.now c.loop-i.seat c.store.new.seat c.loop-i.invariant.0 c.store.ensures.seat,
      subst (λ k. StoresSoFar g.L.Law.terms c.args.log.now.slots c.args.index c.args.note.now m k c.store.new.seat.me)
          {x = t.cell + 1} {y = low_of ws (c.loop-i.i + 1)}
          (sym (plan_next c.args.log.now.slots true ws c.requires.planned.plan c.loop-i.i _ _ t c.loop-i-test.true c.len-i-end.ensures
          c.args.log.now.writes.ok.0
          c.index-kept.ensures))
          (store_goes g.L.Law.terms c.args.log.now.slots c.args.index c.args.note.now c.args.seat.now.me _ c.requires.run.1
          c.requires.held.0 (low_of ws c.loop-i.i) _
          c.loop-i.invariant.1 t.cell t.value s.0.1 (s.2 refl) _ c.requires.held.1 s.0.0
          (unkept_of m.0.seat c.args.log.now.slots c.requires.planned.kept _ _ s.0.3) c.store.ensures.told),
    )

pub returns-clause-seat : goal.returns-clause-seat
returns-clause-seat g c = c.loop-i.invariant.0

pub returns-clause-stores : goal.returns-clause-stores
returns-clause-stores g c =
    let ws = c.args.log.now.writes.items in
    let d = c.args.log.now.writes.ok.0 in
    let b = c.len-i-end.ensures in
    let past : length ws ≤ c.loop-i.i = let a = c.loop-i-test.false in omega arith in
    let all : c.loop-i.i ≤ length ws = let a = c.loop-i.auto.i-end in omega arith in
    let none = plan_end c.args.log.now.slots true ws c.requires.planned.plan c.loop-i.i past all in
    store_ends g.L.Law.terms c.args.log.now.slots c.args.index c.args.note.now c.args.seat.now.me _ c.requires.run.1 c.requires.held.0
    (low_of ws c.loop-i.i) _
    c.loop-i.invariant.1 c.requires.writes (unkept_of c.args.seat.now.me.0.seat c.args.log.now.slots c.requires.planned.kept _ _ none)
