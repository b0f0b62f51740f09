use Rattle.std.proofs.Common.{◌≡◌, ◌<◌, ◌≤◌, ◌*◌, ◌+◌, ℕ, ◌⊎◌}
use Rattle.cells.specs.State.{State}
use Rattle.cells.specs.Slots.{name_cell}
use Rattle.cells.specs.Sight.{WasWritten, Onward, TakesAtMost, ReadsWithin, after}
use Rattle.cells.specs.Aside.{KeepsAside, IsOfSlot}
use Rattle.chains.proofs.filling.vacate.Given as goal

abbrev pub invariant-loop-part : goal.invariant-loop-part
invariant-loop-part g l =
    let old = g.C.Cells.sight l.fn.cells in
    let now = g.C.Cells.sight l.cells in
    record {
      onward : Onward old now;
      taken : TakesAtMost 0 old now;
      keeps : KeepsAside (IsOfSlot l.slot) old now;
      reads : ReadsWithin (IsOfSlot l.slot) old now;
      zeros : (st : State) (c : ℕ) → 5 * l.slot ≤ c → c < 5 * l.slot + l.part → (after now st).value c ≡ 0;
      others : (st : State) (c : ℕ) → (c < 5 * l.slot) ⊎ (5 * l.slot + l.part ≤ c) → (after now st).value c ≡ (after old st).value c;
      written : 0 < l.part → WasWritten now (name_cell l.slot);
    }
