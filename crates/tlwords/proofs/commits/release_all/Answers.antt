use Rattle.std.proofs.Common.{arith, refl, sym, subst, ◌≤◌, ◌+◌, length, true}
use Rattle.tlwords.specs.Walks.{low_of}
use Rattle.tlwords.specs.Committing.{Releasing}
use Rattle.tlwords.proofs.Plans.{plan_at, plan_next, plan_end}
use Rattle.tlwords.proofs.Turns.{unkept_of, goes_seated, seat_trans}
use Rattle.tlwords.proofs.Releases.{release_held, release_goes, release_end}
use Rattle.tlwords.proofs.commits.release_all.Goals as goal

pub loop-i-init : goal.loop-i-init
loop-i-init g c = ((refl, refl, refl), c.requires.run)

pub returns-then-kept-high-clause-seat : goal.returns-then-kept-high-clause-seat
returns-then-kept-high-clause-seat g c = c.loop-i.invariant.0

pub returns-then-kept-high-clause-releases : goal.returns-then-kept-high-clause-releases
returns-then-kept-high-clause-releases g c =
    let ws = c.args.log.now.writes.items in
    let t = c.index-kept.result.now in
    let s = plan_at c.args.log.now.slots true ws c.requires.planned.plan c.loop-i.i _ _ t c.loop-i-test.true c.len-i-end.ensures
    c.args.log.now.writes.ok.0
    c.index-kept.ensures in
    let past = c.if-kept-high.true in
    let u = unkept_of c.args.seat.now.me.0.seat c.args.log.now.slots c.requires.planned.kept _ _ s.0.3 in
    release_end g.L.Law.terms c.args.log.now.slots c.args.high c.args.new (low_of ws c.loop-i.i) _ _ c.loop-i.invariant.1
    (λ x a b. u x a (omega arith))

pub release-requires-clause-seated : goal.release-requires-clause-seated
release-requires-clause-seated g c =
    goes_seated g.L.Law.terms _ _ _ _ c.requires.planned.seated c.loop-i.invariant.0 c.loop-i.invariant.1.goes

pub release-requires-clause-cell : goal.release-requires-clause-cell
release-requires-clause-cell g c =
    let ws = c.args.log.now.writes.items in
    let t = c.index-kept.result.now in
    let s = plan_at c.args.log.now.slots true ws c.requires.planned.plan c.loop-i.i _ _ t c.loop-i-test.true c.len-i-end.ensures
    c.args.log.now.writes.ok.0
    c.index-kept.ensures in
    let l = s.0.1 in
    let p = c.requires.planned.cells in
    omega arith

pub release-requires-clause-held : goal.release-requires-clause-held
release-requires-clause-held g c =
    let ws = c.args.log.now.writes.items in
    let t = c.index-kept.result.now in
    let s = plan_at c.args.log.now.slots true ws c.requires.planned.plan c.loop-i.i _ _ t c.loop-i-test.true c.len-i-end.ensures
    c.args.log.now.writes.ok.0
    c.index-kept.ensures in
    release_held g.L.Law.terms c.args.log.now.slots c.args.high c.args.new (low_of ws c.loop-i.i) _ _ c.loop-i.invariant.1 t.cell t.value
    s.0.0
    c.if-kept-high.false (s.2 refl) t.word c.unwrap_or.result s.1 c.unwrap_or.ensures

pub loop-i-preserved : goal.loop-i-preserved
loop-i-preserved g c =
    let ws = c.args.log.now.writes.items in
    let t = c.index-kept.result.now in
    let s = plan_at c.args.log.now.slots true ws c.requires.planned.plan c.loop-i.i _ _ t c.loop-i-test.true c.len-i-end.ensures
    c.args.log.now.writes.ok.0
    c.index-kept.ensures in
    let m = c.args.seat.now.me in (
      seat_trans c.args.seat.now c.loop-i.seat c.release.new.seat c.loop-i.invariant.0 c.release.ensures.seat,
      subst (λ k. Releasing g.L.Law.terms c.args.log.now.slots c.args.high c.args.new k m c.release.new.seat.me)
          {x = t.cell + 1} {y = low_of ws (c.loop-i.i + 1)}
          (sym (plan_next c.args.log.now.slots true ws c.requires.planned.plan c.loop-i.i _ _ t c.loop-i-test.true c.len-i-end.ensures
          c.args.log.now.writes.ok.0
          c.index-kept.ensures))
          (release_goes g.L.Law.terms c.args.log.now.slots c.args.high c.args.new (low_of ws c.loop-i.i) _ _ c.loop-i.invariant.1 t.cell
          t.value s.0.0
          c.if-kept-high.false (s.2 refl) _ (unkept_of m.0.seat c.args.log.now.slots c.requires.planned.kept _ _ s.0.3)
          c.release.ensures.told),
    )

pub returns-clause-seat : goal.returns-clause-seat
returns-clause-seat g c = c.loop-i.invariant.0

pub returns-clause-releases : goal.returns-clause-releases
returns-clause-releases g c =
    let ws = c.args.log.now.writes.items in
    let d = c.args.log.now.writes.ok.0 in
    let b = c.len-i-end.ensures in
    let past : length ws ≤ c.loop-i.i = let a = c.loop-i-test.false in omega arith in
    let all : c.loop-i.i ≤ length ws = let a = c.loop-i.auto.i-end in omega arith in
    let none = plan_end c.args.log.now.slots true ws c.requires.planned.plan c.loop-i.i past all in
    let h = c.requires.high in
    let u = unkept_of c.args.seat.now.me.0.seat c.args.log.now.slots c.requires.planned.kept _ _ none in
    release_end g.L.Law.terms c.args.log.now.slots c.args.high c.args.new (low_of ws c.loop-i.i) _ _ c.loop-i.invariant.1
    (λ x a b. u x a (omega arith))
