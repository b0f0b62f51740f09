use Rattle.std.proofs.Common.{◌<◌, ◌+◌, ℕ, List, All, nat_eq, take, get_or, sym, subst, arith, refl}
use Rattle.std.proofs.lemmas.List.{take_all}
use Rattle.mmsyntax.specs.Assertions.{Distinct}
use Rattle.cells.specs.State.{State}
use Rattle.cells.specs.Sight.{Sight, Matches, Onward, TakesAtMost, ReadsWithin, after}
use Rattle.cells.proofs.Sights.{onward_trans, writes_onward, matches_back}
use Rattle.cells.specs.Aside.{KeepsAside, IsCitersOf}
use Rattle.cells.proofs.Keeping.{keeps_trans}
use Rattle.cells.proofs.Asking.{nothing_same, nothing_written, asks_trans}
use Rattle.cells.proofs.Counting.{Changes, one_less, changes_more, count_made, counts_out, keeps_counted, asks_counted}
use Rattle.cells.proofs.counts.count_out.Goals as goal
use Rattle.cells.proofs.counts.count_out.Goals.{then-slot-slots+in_ok-count, else-slot-slots}

pub returns-in_err-count-clause-onward : goal.returns-in_err-count-clause-onward
returns-in_err-count-clause-onward g c = onward_trans _ _ _ c.loop-slot.invariant.onward c.in_err-count.ensures.err.onward

pub returns-in_err-count-clause-reads : goal.returns-in_err-count-clause-reads
returns-in_err-count-clause-reads g c =
    asks_trans c.loop-slot.invariant.reads
    (asks_counted c.args.cited.now c.loop-slot.slot-index _ _ _ _ (omega arith) c.citers_cell.ensures c.read.ensures.reads (nothing_same _))

pub loop-slot-preserved : goal.loop-slot-preserved
loop-slot-preserved g c = elim c.if-slot-slots.branch [
  | then-slot-slots+in_ok-count w ↦
      (let now = g.C.Cells.sight c.loop-slot.cells in
      let new = g.C.Cells.sight w.write.new.self in
      let read = w.in_ok-count.ensures.ok in
      let wrote = writes_onward _ _ _ _ w.write.ensures in
      record {
        onward = subst (λ cells. Onward old (g.C.Cells.sight cells)) (sym w.cells-is)
            (onward_trans _ _ _ c.loop-slot.invariant.onward (onward_trans _ _ _ read.looks.onward wrote));
        taken = subst (λ cells. TakesAtMost 0 old (g.C.Cells.sight cells)) (sym w.cells-is)
            (omega (arith, c.loop-slot.invariant.taken, read.looks.taken, w.write.ensures.taken));
        keeps = subst (λ cells. KeepsAside (IsCitersOf cited) old (g.C.Cells.sight cells)) (sym w.cells-is)
            (keeps_trans (IsCitersOf cited) old now new c.loop-slot.invariant.keeps
            (keeps_counted cited i _ _ now _ new (omega arith) w.citers_cell-then-slot-slots.ensures read.looks w.write.ensures));
        reads = subst (λ cells. ReadsWithin (IsCitersOf cited) old (g.C.Cells.sight cells)) (sym w.cells-is)
            (asks_trans c.loop-slot.invariant.reads
            (asks_counted cited i _ now _ new (omega arith) w.citers_cell.ensures w.read.ensures.reads (nothing_written w.write.ensures)));
        changes = subst (Turned (i + 1)) (sym w.cells-is) (λ st m within d.
            let m1 = matches_back _ _ st wrote m in
            let m0 = matches_back _ _ st read.looks.onward m1 in
            let made = count_made one_less now _ new st _ _ _ _ x read.looks w.write.ensures w.citers_cell-then-slot-slots.ensures
            w.saturating_sub.ensures (read.value st m1) w.citers_cell.ensures in
            subst (Changes one_less (take (i + 1) cited) (after old st)) (sym made)
            (changes_more one_less cited i x (after old st) (after now st) d (omega arith) refl
            (c.loop-slot.invariant.changes st m0 within d)));
      })
  | else-slot-slots w ↦
      record {
        onward = subst (λ cells. Onward old (g.C.Cells.sight cells)) (sym w.cells-is) c.loop-slot.invariant.onward;
        taken = subst (λ cells. TakesAtMost 0 old (g.C.Cells.sight cells)) (sym w.cells-is) c.loop-slot.invariant.taken;
        keeps = subst (λ cells. KeepsAside (IsCitersOf cited) old (g.C.Cells.sight cells)) (sym w.cells-is) c.loop-slot.invariant.keeps;
        reads = subst (λ cells. ReadsWithin (IsCitersOf cited) old (g.C.Cells.sight cells)) (sym w.cells-is) c.loop-slot.invariant.reads;
        changes = λ st m within d.
            let lt = within i 0 c.loop-slot-test.true in
            let some = c.slot_count-slots.ensures.value in
            let past = w.if-slot-slots.false in
            absurd (omega (arith, lt, some, past));
      }
]
  where
    cited : List ℕ
    cited = c.args.cited.now

    i : ℕ
    i = c.loop-slot.slot-index

    x : ℕ
    x = get_or c.args.cited.now c.loop-slot.slot-index 0

    old : Sight g.row.C-Origin.Denot
    old = g.C.Cells.sight c.args.cells.now

    Turned : ℕ → g.row.C.Denot → Type 0
    Turned n cells = (st : State) → Matches (g.C.Cells.sight cells) st → All (λ k. k < old.setting.slots) cited → Distinct nat_eq cited
        → Changes one_less (take n cited) (after old st) (after (g.C.Cells.sight cells) st)

pub returns-clause-ok : goal.returns-clause-ok
returns-clause-ok g c st m within d =
    let cited = c.args.cited.now in
    let old = g.C.Cells.sight c.args.cells.now in
    let new = g.C.Cells.sight c.loop-slot.cells in
    counts_out cited (after old st) (after new st) (subst (λ (l : List ℕ). Changes one_less l (after old st) (after new st))
    (take_all c.loop-slot.slot-index cited (omega arith)) (c.loop-slot.invariant.changes st m within d))
