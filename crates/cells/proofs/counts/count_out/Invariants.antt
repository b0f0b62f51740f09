use Rattle.std.proofs.Common.{◌<◌, take, nat_eq, All}
use Rattle.mmsyntax.specs.Assertions.{Distinct}
use Rattle.cells.specs.State.{State}
use Rattle.cells.specs.Sight.{Matches, Onward, TakesAtMost, ReadsWithin, after}
use Rattle.cells.specs.Aside.{KeepsAside, IsCitersOf}
use Rattle.cells.proofs.Counting.{Changes, one_less}
use Rattle.cells.proofs.counts.count_out.Given as goal

abbrev pub invariant-loop-slot : goal.invariant-loop-slot
invariant-loop-slot g l =
    let old = g.C.Cells.sight l.fn.cells in
    let now = g.C.Cells.sight l.cells in
    record {
      onward : Onward old now;
      taken : TakesAtMost 0 old now;
      keeps : KeepsAside (IsCitersOf l.cited) old now;
      reads : ReadsWithin (IsCitersOf l.cited) old now;
      changes : (st : State) → Matches now st → All (λ i. i < old.setting.slots) l.cited → Distinct nat_eq l.cited
          → Changes one_less (take l.slot-index l.cited) (after old st) (after now st);
    }
