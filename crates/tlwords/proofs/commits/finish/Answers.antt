use Rattle.std.proofs.Common.{arith, ap, refl, sym, subst, ◌∙◌, ◌≡◌, ◌≢◌, None, [], false, length}
use Rattle.tlcore.proofs.Lists.{equal_numbers, other_numbers}
use Rattle.tlwords.specs.declared.mode.Mode.TheVariants.{Writing}
use Rattle.tlwords.specs.Known.{going_of}
use Rattle.tlwords.specs.Runs.{IsKeptOf}
use Rattle.tlwords.specs.Commits.{writes_kept}
use Rattle.tlwords.specs.Calls.{IsLawful}
use Rattle.tlwords.specs.Committing.{Concludes}
use Rattle.tlwords.proofs.Knows.{left_fits}
use Rattle.tlwords.proofs.Plans.{plan_none, plan_some}
use Rattle.tlwords.proofs.Finishes.{answered, nothing_kept, unwritten_lawful}
use Rattle.tlwords.proofs.commits.finish.Goals as goal

pub recall-requires-clause-lawful : goal.recall-requires-clause-lawful
recall-requires-clause-lawful g c =
    let e = c.plan_writes.ensures.same in
    let log = c.plan_writes.new.self in
    let t = c.args.seat.now in
    let none : length log.writes.items ≡ 0 =
    let a = log.writes.ok.0 in let b = equal_numbers _ 0 (sym c.is_empty.ensures ∙ c.if-is_empty.true) in omega arith in
    let nothing : writes_kept c.args.log.now.slots ≡ [] =
    subst (λ x. writes_kept x ≡ []) e (nothing_kept t.me.0.seat log.slots (subst (λ x. IsKeptOf t.me.0.seat x) (sym e) c.requires.kept)
    (plan_none log.slots log.writes.items c.plan_writes.ensures.plan none)) in
    unwritten_lawful g.L.Law.terms c.args.note.now (going_of t.table_id t.me.0 c.args.place Writing None c.args.log.now.slots)
    c.requires.lawful
    nothing

pub returns-then-is_empty-clause-ended : goal.returns-then-is_empty-clause-ended
returns-then-is_empty-clause-ended g c =
    let e = c.plan_writes.ensures.same in
    let log = c.plan_writes.new.self in
    let t = c.args.seat.now in
    let none : length log.writes.items ≡ 0 =
    let a = log.writes.ok.0 in let b = equal_numbers _ 0 (sym c.is_empty.ensures ∙ c.if-is_empty.true) in omega arith in
    let nothing : writes_kept c.args.log.now.slots ≡ [] =
    subst (λ x. writes_kept x ≡ []) e (nothing_kept t.me.0.seat log.slots (subst (λ x. IsKeptOf t.me.0.seat x) (sym e) c.requires.kept)
    (plan_none log.slots log.writes.items c.plan_writes.ensures.plan none)) in
    answered g.L.Law.terms c.args.note.now Writing c.args.log.now.slots t c.recall.new.seat _ c.args.place c.recall.ensures.seat
    c.requires.run
    c.recall.ensures.told nothing

pub returns-then-count-ge-MOST_NUMBERS-clause-ended : goal.returns-then-count-ge-MOST_NUMBERS-clause-ended
returns-then-count-ge-MOST_NUMBERS-clause-ended g c =
    let log = c.plan_writes.new.self in
    let most : length log.writes.items ≢ 0 =
    λ z. other_numbers _ 0 (sym c.is_empty.ensures ∙ c.if-is_empty.false) (let a = log.writes.ok.0 in a ∙ z) in
    let a = c.requires.run.3 in
    let b = c.requires.run.4 in
    record {
      seat = (refl, refl, refl);
      pass = left_fits g.L.Law.terms c.args.seat.now.me _ c.args.place false c.requires.run;
      store = λ full k. k;
      ends = (
        subst (λ x. writes_kept x ≢ []) c.plan_writes.ensures.same (plan_some log.slots log.writes.items c.plan_writes.ensures.plan most),
        omega arith,
        refl,
      );
    }

pub settle-requires-clause-planned : goal.settle-requires-clause-planned
settle-requires-clause-planned g c =
    let same = c.plan_writes.ensures.same in
    record {
      seated = c.requires.seated;
      cells = ap length same ∙ c.requires.cells;
      kept = subst (λ x. IsKeptOf c.args.seat.now.me.0.seat x) (sym same) c.requires.kept;
      plan = c.plan_writes.ensures.plan;
    }

pub settle-requires-clause-lawful : goal.settle-requires-clause-lawful
settle-requires-clause-lawful g c =
    let t = c.args.seat.now in
    subst (λ x. IsLawful g.L.Law.terms (going_of t.table_id t.me.0 c.args.place Writing None x) c.args.note.now)
    (sym c.plan_writes.ensures.same)
    c.requires.lawful

pub settle-requires-clause-writes : goal.settle-requires-clause-writes
settle-requires-clause-writes g c =
    let log = c.plan_writes.new.self in
    plan_some log.slots log.writes.items c.plan_writes.ensures.plan
    (λ z. other_numbers _ 0 (sym c.is_empty.ensures ∙ c.if-is_empty.false) (let a = log.writes.ok.0 in a ∙ z))

pub returns-clause-ended : goal.returns-clause-ended
returns-clause-ended g c =
    let s = c.settle in
    subst (λ x. Concludes g.L.Law.terms c.args.note.now Writing c.args.place x s.new.count c.args.seat.now s.new.seat s.result)
    c.plan_writes.ensures.same s.ensures.ended
