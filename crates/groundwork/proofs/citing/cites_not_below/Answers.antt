use Rattle.std.proofs.Common.{◌≡◌, ◌+◌, ◌<◌, true, false, length, get_or, sym, ap, subst, arith}
use Rattle.std.proofs.lemmas.Bool.{le-leb, lt-leb}
use Rattle.cells.specs.Counts.{AreCitedSlots}
use Rattle.cells.specs.Sight.{Sight, Looks, ReadsWithin}
use Rattle.cells.specs.Lookups.{ForEachHeld}
use Rattle.cells.proofs.Sights.{looks_refl, looks_trans}
use Rattle.cells.proofs.Settings.{same_slots}
use Rattle.cells.proofs.Asking.{nothing_same, asks_nothing, asks_trans}
use Rattle.groundwork.specs.Footprints.{IsRankOfSteps}
use Rattle.groundwork.proofs.TestReads.{rank_of_one}
use Rattle.groundwork.proofs.CitedRanks.{AreBelow, past_below, ranked_below, below_none, below_one_more, tells_below, tells_not_below, is_cited}
use Rattle.groundwork.proofs.citing.cites_not_below.Goals.{else-slot-slots-via-then-slot-slots+in_ok-rank+else-branch, else-slot-slots-via-else-slot-slots}
use Rattle.std.proofs.lemmas.Result.{IfOk-from_err}
use Rattle.groundwork.proofs.citing.cites_not_below.Goals as goal

pub loop-slot-init : goal.loop-slot-init
loop-slot-init g c = (looks_refl _, below_none _ _ _, asks_nothing (nothing_same _))

pub rank-requires : goal.rank-requires
rank-requires g c =
    let n = c.slot_count-slots.ensures.value in
    let m = same_slots _ _ c.loop-slot.invariant.0 in
    let lt = c.if-slot-slots.true in
    omega (arith, n, m, lt)

pub returns-in_err-rank-clause-looks : goal.returns-in_err-rank-clause-looks
returns-in_err-rank-clause-looks g c = looks_trans _ _ _ c.loop-slot.invariant.0 c.rank.ensures.looks

pub returns-in_err-rank-clause-reads : goal.returns-in_err-rank-clause-reads
returns-in_err-rank-clause-reads g c =
    let are = subst (AreCitedSlots c.args.steps.now) (sym c.as_slice-slot-items.ensures.value) c.in_ok-cited.ensures in
    asks_trans c.loop-slot.invariant.2
    (rank_of_one c.args.steps.now c.as_slice-slot-items.result.now c.loop-slot.slot-index are (omega arith) c.rank.ensures.reads)

pub returns-then-branch-clause-looks : goal.returns-then-branch-clause-looks
returns-then-branch-clause-looks g c = looks_trans _ _ _ c.loop-slot.invariant.0 c.rank.ensures.looks

pub returns-then-branch-clause-ok : goal.returns-then-branch-clause-ok
returns-then-branch-clause-ok g c =
    let s = g.C.Cells.sight c.rank.new.cells in
    let limit = c.args.limit in
    let i = c.loop-slot.slot-index in
    let cited = c.as_slice-slot-items.result.now in
    let are = subst (AreCitedSlots c.args.steps.now) (sym c.as_slice-slot-items.ensures.value) c.in_ok-cited.ensures in
    let ranked : ForEachHeld s (get_or c.as_slice-slot-items.result.now c.loop-slot.slot-index 0) (λ st lib e. c.in_ok-rank.field-0
    ≡ e.rank) =
    c.in_ok-rank.ensures.ok in
    tells_not_below s limit (get_or cited i 0) c.args.steps.now (is_cited c.args.steps.now cited i are (omega arith))
    (ranked_below s limit (get_or cited i 0) c.in_ok-rank.field-0 true ranked (le-leb limit c.in_ok-rank.field-0 c.if-branch.true))

pub returns-then-branch-clause-reads : goal.returns-then-branch-clause-reads
returns-then-branch-clause-reads g c =
    let are = subst (AreCitedSlots c.args.steps.now) (sym c.as_slice-slot-items.ensures.value) c.in_ok-cited.ensures in
    asks_trans c.loop-slot.invariant.2
    (rank_of_one c.args.steps.now c.as_slice-slot-items.result.now c.loop-slot.slot-index are (omega arith) c.rank.ensures.reads)

pub loop-slot-preserved : goal.loop-slot-preserved
loop-slot-preserved g c =
    let old = g.C.Cells.sight c.args.cells.now in
    let now = g.C.Cells.sight c.loop-slot.cells in
    let limit = c.args.limit in
    let i = c.loop-slot.slot-index in
    let cited = c.as_slice-slot-items.result.now in
    let slot = get_or cited i 0 in
    let are = subst (AreCitedSlots c.args.steps.now) (sym c.as_slice-slot-items.ensures.value) c.in_ok-cited.ensures in
    let Q : Sight g.row.C-Origin.Denot → Type 0 =
    λ s. Looks (g.C.Cells.sight c.args.cells.now) s × AreBelow s c.args.limit (c.loop-slot.slot-index + 1) c.as_slice-slot-items.result.now
    × ReadsWithin (IsRankOfSteps c.args.steps.now) (g.C.Cells.sight c.args.cells.now) s in
    let lt : c.loop-slot.slot-index < length c.as_slice-slot-items.result.now = omega arith in
    let looks = c.loop-slot.invariant.0 in
    let below = c.loop-slot.invariant.1 in
    elim c.else-slot-slots.branch [
      | else-slot-slots-via-then-slot-slots+in_ok-rank+else-branch w ↦
          let s = g.C.Cells.sight w.rank.new.cells in
          let ranked : ForEachHeld s (get_or c.as_slice-slot-items.result.now c.loop-slot.slot-index 0) (λ st lib e. w.in_ok-rank.field-0
          ≡ e.rank) =
          w.in_ok-rank.ensures.ok in
          let one = ranked_below s limit slot w.in_ok-rank.field-0 false ranked (lt-leb limit w.in_ok-rank.field-0 w.if-branch.false) in
          subst Q (sym (ap (λ x. g.C.Cells.sight x) w.cells-is)) (
            looks_trans _ _ _ looks w.rank.ensures.looks,
            below_one_more now s limit i cited w.rank.ensures.looks below one,
            asks_trans c.loop-slot.invariant.2 (rank_of_one c.args.steps.now cited i are lt w.rank.ensures.reads),
          )
      | else-slot-slots-via-else-slot-slots w ↦
          let one = past_below now limit slot false (λ z.
          let n = c.slot_count-slots.ensures.value in
          let m = same_slots old now looks in
          let k = w.if-slot-slots.false in
          omega (arith, n, m, k, z)) in
          subst Q (sym (ap (λ x. g.C.Cells.sight x) w.cells-is)) (
            looks,
            below_one_more now now limit i cited (looks_refl now) below one,
            c.loop-slot.invariant.2,
          )
    ]

pub returns-clause-looks : goal.returns-clause-looks
returns-clause-looks g c = c.loop-slot.invariant.0

pub returns-clause-ok : goal.returns-clause-ok
returns-clause-ok g c =
    let are = subst (AreCitedSlots c.args.steps.now) (sym c.as_slice-slot-items.ensures.value) c.in_ok-cited.ensures in
    tells_below (g.C.Cells.sight c.loop-slot.cells) c.args.limit c.loop-slot.slot-index c.args.steps.now c.as_slice-slot-items.result.now
    are
    (omega arith) c.loop-slot.invariant.1

pub returns-clause-reads : goal.returns-clause-reads
returns-clause-reads g c = c.loop-slot.invariant.2

pub returns-in_err-cited-clause-ok : goal.returns-in_err-cited-clause-ok
returns-in_err-cited-clause-ok g c = IfOk-from_err _ _ c.from_residual.ensures.0

pub returns-in_err-rank-clause-ok : goal.returns-in_err-rank-clause-ok
returns-in_err-rank-clause-ok g c = IfOk-from_err _ _ c.from_residual-in_err-rank.ensures.0
