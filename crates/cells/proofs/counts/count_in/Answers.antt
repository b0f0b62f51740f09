use Rattle.std.proofs.Common.{◌+◌, ℕ, List, take, get_or, sym, subst, arith, refl}
use Rattle.std.proofs.lemmas.List.{take_all}
use Rattle.cells.specs.Sight.{after}
use Rattle.cells.proofs.Sights.{onward_trans, writes_onward, matches_back}
use Rattle.cells.specs.Aside.{IsCitersOf}
use Rattle.cells.proofs.Keeping.{keeps_trans}
use Rattle.cells.proofs.Asking.{nothing_same, nothing_written, asks_trans}
use Rattle.cells.proofs.Counting.{Changes, one_more, changes_more, count_made, counts_in, keeps_counted, asks_counted}
use Rattle.cells.proofs.Settings.{small_slot}
use Rattle.cells.proofs.counts.count_in.Goals as goal

pub citers_cell-requires : goal.citers_cell-requires
citers_cell-requires g c =
    small_slot _ (g.met.C.Cells.grounded c.args.cells.now) _ (c.requires.slots c.loop-slot.slot-index 0 c.loop-slot-test.true)

pub citers_cell-requires-in-loop-slot : goal.citers_cell-requires-in-loop-slot
citers_cell-requires-in-loop-slot g c =
    small_slot _ (g.met.C.Cells.grounded c.args.cells.now) _ (c.requires.slots c.loop-slot.slot-index 0 c.loop-slot-test.true)

pub returns-in_err-count-clause-onward : goal.returns-in_err-count-clause-onward
returns-in_err-count-clause-onward g c = onward_trans _ _ _ c.loop-slot.invariant.onward c.in_err-count.ensures.err.onward

pub returns-in_err-count-clause-reads : goal.returns-in_err-count-clause-reads
returns-in_err-count-clause-reads g c =
    asks_trans c.loop-slot.invariant.reads
    (asks_counted c.args.cited.now c.loop-slot.slot-index _ _ _ _ (omega arith) c.citers_cell.ensures c.read.ensures.reads (nothing_same _))

pub loop-slot-preserved : goal.loop-slot-preserved
loop-slot-preserved g c =
    let cited = c.args.cited.now in
    let i = c.loop-slot.slot-index in
    let x = get_or c.args.cited.now c.loop-slot.slot-index 0 in
    let old = g.C.Cells.sight c.args.cells.now in
    let now = g.C.Cells.sight c.loop-slot.cells in
    let new = g.C.Cells.sight c.write.new.self in
    let read = c.in_ok-count.ensures.ok in
    let wrote = writes_onward _ _ _ _ c.write.ensures in
    record {
      onward = onward_trans _ _ _ c.loop-slot.invariant.onward (onward_trans _ _ _ read.looks.onward wrote);
      taken = omega (arith, c.loop-slot.invariant.taken, read.looks.taken, c.write.ensures.taken);
      keeps = keeps_trans (IsCitersOf c.args.cited.now) old now new c.loop-slot.invariant.keeps
          (keeps_counted cited i _ _ now _ new (omega arith) c.citers_cell-in-loop-slot.ensures read.looks c.write.ensures);
      reads = asks_trans c.loop-slot.invariant.reads
          (asks_counted cited i _ now _ new (omega arith) c.citers_cell.ensures c.read.ensures.reads (nothing_written c.write.ensures));
      changes = λ st m d.
          let m1 = matches_back _ _ st wrote m in
          let m0 = matches_back _ _ st read.looks.onward m1 in
          let made = count_made one_more now _ new st _ _ _ _ x read.looks c.write.ensures c.citers_cell-in-loop-slot.ensures
          c.saturating_add.ensures
          (read.value st m1) c.citers_cell.ensures in
          subst (Changes one_more (take (i + 1) cited) (after old st)) (sym made)
          (changes_more one_more cited i x (after old st) (after now st) d (omega arith) refl (c.loop-slot.invariant.changes st m0 d));
    }

pub returns-clause-ok : goal.returns-clause-ok
returns-clause-ok g c st m few d =
    let cited = c.args.cited.now in
    let old = g.C.Cells.sight c.args.cells.now in
    let new = g.C.Cells.sight c.loop-slot.cells in
    counts_in cited (after old st) (after new st) few (subst (λ (l : List ℕ). Changes one_more l (after old st) (after new st))
    (take_all c.loop-slot.slot-index cited (omega arith)) (c.loop-slot.invariant.changes st m d))
