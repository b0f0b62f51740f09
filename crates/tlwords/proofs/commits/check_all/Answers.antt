use Rattle.std.proofs.Common.{arith, refl, sym, subst, ◌∙◌, ◌≤◌, ◌+◌, length, false}
use Rattle.tlcore.specs.Machine.{in_phase}
use Rattle.tlcore.specs.declared.seats.Phase.TheVariants.{Checking}
use Rattle.tlwords.specs.Runs.{HasCause}
use Rattle.tlwords.specs.Walks.{low_of, IsPlan}
use Rattle.tlwords.specs.Committing.{Goes}
use Rattle.tlwords.proofs.Plans.{plan_at, plan_next, plan_end}
use Rattle.tlwords.proofs.Turns.{read_found, goes_seated, goes_read, seat_trans}
use Rattle.tlwords.proofs.Checks.{check_starts, check_skips, check_place, check_goes, check_fails, check_ends}
use Rattle.tlwords.proofs.commits.check_all.Goals as goal

pub returns-then-index-place-clause-ok : goal.returns-then-index-place-clause-ok
returns-then-index-place-clause-ok g c =
    check_skips g.L.Law.terms c.args.log.now.slots c.args.index c.args.seat.now.me c.requires.planned.kept c.requires.run.0
    (c.if-index-place.true ∙ sym c.requires.run.1)

pub loop-i-init : goal.loop-i-init
loop-i-init g c = (
  (refl, refl, refl),
  check_starts g.L.Law.terms c.args.log.now.slots c.args.index c.args.seat.now.me c.requires.planned.kept
      c.requires.run.0,
)

pub check-word-requires-clause-seated : goal.check-word-requires-clause-seated
check-word-requires-clause-seated g c =
    goes_seated g.L.Law.terms _ _ _ _ c.requires.planned.seated c.loop-i.invariant.0 c.loop-i.invariant.1

pub check-word-requires-clause-cell : goal.check-word-requires-clause-cell
check-word-requires-clause-cell g c =
    let ws = c.plan_checks.new.self.checks.items in
    let t = c.index-read.result.now in
    let p : IsPlan c.args.log.now.slots false ws = subst (λ x. IsPlan x false ws) c.plan_checks.ensures.same.0 c.plan_checks.ensures.plan in
    let s = plan_at c.args.log.now.slots false ws p c.loop-i.i _ _ t c.loop-i-test.true c.len-i-end.ensures
    c.plan_checks.new.self.checks.ok.0
    c.index-read.ensures in
    let l = s.0.1 in
    let p = c.requires.planned.cells in
    omega arith

pub check-word-requires-clause-phase : goal.check-word-requires-clause-phase
check-word-requires-clause-phase g c =
    let ws = c.plan_checks.new.self.checks.items in
    let t = c.index-read.result.now in
    let p : IsPlan c.args.log.now.slots false ws = subst (λ x. IsPlan x false ws) c.plan_checks.ensures.same.0 c.plan_checks.ensures.plan in
    let s = plan_at c.args.log.now.slots false ws p c.loop-i.i _ _ t c.loop-i-test.true c.len-i-end.ensures
    c.plan_checks.new.self.checks.ok.0
    c.index-read.ensures in
    check_place g.L.Law.terms c.args.log.now.slots c.args.index c.args.seat.now.me c.requires.planned.kept c.requires.run.2
    (low_of ws c.loop-i.i) _ c.loop-i.invariant.1
    t.cell s.0.0 s.0.2 s.0.3 (λ e. c.if-index-place.false (e ∙ c.requires.run.1))

pub check-word-requires-clause-read : goal.check-word-requires-clause-read
check-word-requires-clause-read g c =
    let ws = c.plan_checks.new.self.checks.items in
    let t = c.index-read.result.now in
    let p : IsPlan c.args.log.now.slots false ws = subst (λ x. IsPlan x false ws) c.plan_checks.ensures.same.0 c.plan_checks.ensures.plan in
    let s = plan_at c.args.log.now.slots false ws p c.loop-i.i _ _ t c.loop-i-test.true c.len-i-end.ensures
    c.plan_checks.new.self.checks.ok.0
    c.index-read.ensures in
    let d = read_found c.args.seat.now.me.0.seat c.args.log.now.slots c.requires.planned.kept t.cell t.word s.1 in
    (d.0, goes_read g.L.Law.terms _ _ _ c.loop-i.invariant.1 refl t.cell d.0 d.1)

pub returns-then-not-passes-clause-seat : goal.returns-then-not-passes-clause-seat
returns-then-not-passes-clause-seat g c = seat_trans c.args.seat.now c.loop-i.seat c.check-word.new.seat c.loop-i.invariant.0
    c.check-word.ensures.seat

pub returns-then-not-passes-clause-err : goal.returns-then-not-passes-clause-err
returns-then-not-passes-clause-err g c =
    let ws = c.plan_checks.new.self.checks.items in
    let t = c.index-read.result.now in
    let p : IsPlan c.args.log.now.slots false ws = subst (λ x. IsPlan x false ws) c.plan_checks.ensures.same.0 c.plan_checks.ensures.plan in
    let s = plan_at c.args.log.now.slots false ws p c.loop-i.i _ _ t c.loop-i-test.true c.len-i-end.ensures
    c.plan_checks.new.self.checks.ok.0
    c.index-read.ensures in
    check_fails g.L.Law.terms c.args.log.now.slots c.args.index c.args.seat.now.me c.requires.planned.kept c.requires.run.2
    (low_of ws c.loop-i.i) _ c.loop-i.invariant.1
    t.cell c.check-word.result _ c.check-word.ensures.told t.word _ refl s.1
    (subst (λ n. HasCause n c.check-word.result) (sym c.requires.run.1) (c.passes.ensures.no c.if-not-passes.true))

pub loop-i-preserved : goal.loop-i-preserved
loop-i-preserved g c =
    let ws = c.plan_checks.new.self.checks.items in
    let t = c.index-read.result.now in
    let p : IsPlan c.args.log.now.slots false ws = subst (λ x. IsPlan x false ws) c.plan_checks.ensures.same.0 c.plan_checks.ensures.plan in
    let s = plan_at c.args.log.now.slots false ws p c.loop-i.i _ _ t c.loop-i-test.true c.len-i-end.ensures
    c.plan_checks.new.self.checks.ok.0
    c.index-read.ensures in
    let m = c.args.seat.now.me in (
      seat_trans c.args.seat.now c.loop-i.seat c.check-word.new.seat c.loop-i.invariant.0 c.check-word.ensures.seat,
      subst (λ k. Goes g.L.Law.terms m (in_phase m.0.seat (Checking c.args.index k)) c.check-word.new.seat.me)
          {x = t.cell + 1} {y = low_of ws (c.loop-i.i + 1)}
          (sym (plan_next c.args.log.now.slots false ws p c.loop-i.i _ _ t c.loop-i-test.true c.len-i-end.ensures
          c.plan_checks.new.self.checks.ok.0
          c.index-read.ensures))
          (check_goes g.L.Law.terms c.args.log.now.slots c.args.index c.args.seat.now.me c.requires.planned.kept c.requires.run.2
          (low_of ws c.loop-i.i) _ c.loop-i.invariant.1
          t.cell c.check-word.result _ c.check-word.ensures.told (c.passes.ensures.yes c.if-not-passes.false).0
          (let a = c.requires.run.1 in let b = (c.passes.ensures.yes c.if-not-passes.false).1 in omega arith)),
    )

pub returns-clause-seat : goal.returns-clause-seat
returns-clause-seat g c = c.loop-i.invariant.0

pub returns-clause-ok : goal.returns-clause-ok
returns-clause-ok g c =
    let ws = c.plan_checks.new.self.checks.items in
    let d = c.plan_checks.new.self.checks.ok.0 in
    let b = c.len-i-end.ensures in
    let past : length ws ≤ c.loop-i.i = let a = c.loop-i-test.false in omega arith in
    let all : c.loop-i.i ≤ length ws = let a = c.loop-i.auto.i-end in omega arith in
    let p : IsPlan c.args.log.now.slots false ws = subst (λ x. IsPlan x false ws) c.plan_checks.ensures.same.0 c.plan_checks.ensures.plan in
    let none = plan_end c.args.log.now.slots false ws p c.loop-i.i past all in
    check_ends g.L.Law.terms c.args.log.now.slots c.args.index c.args.seat.now.me c.requires.planned.kept c.requires.run.2 (low_of ws
    c.loop-i.i) _ c.loop-i.invariant.1 none
