use Rattle.std.proofs.Common.{◌≡◌, ◌<◌, ◌≤◌, ◌*◌, List, length, nat_eq}
use Rattle.mmsyntax.specs.Assertions.{Distinct}
use Rattle.library.specs.declared.library.Ranked.{Ranked}
use Rattle.library.specs.Library.{label_of}
use Rattle.ranges.specs.Ranges.{Has}
use Rattle.cells.specs.State.{State}
use Rattle.cells.specs.Slots.{bucket_cell, next_cell, cell_count, bucket}
use Rattle.cells.specs.Shows.{Held, slots_of, AreChained}
use Rattle.cells.specs.Sight.{Matches, Looks, WasRead, after}
use Rattle.cells.specs.Footprints.{ReadsWhere, IsOnChain, IsOfTakingOut}
use Rattle.chains.proofs.Unlinking.{leading}
use Rattle.chains.proofs.Walking.{Walks}
use Rattle.chains.proofs.chains.take_out.Given as goal

-- the cell leads to the slot, by fewer links than slots
abbrev pub invariant-loop : goal.invariant-loop
invariant-loop g l =
    let old = g.C.Cells.sight l.fn.cells in
    let now = g.C.Cells.sight l.cells in
    let slots = (g.C.Cells.sight l.fn.cells).setting.slots in
    record {
      looks : Looks old now;
      reads : ReadsWhere (IsOfTakingOut slots l.slot l.label) old now;
      stands : (st : State) → Matches now st → IsOnChain slots (bucket slots l.label) (after old st) l.before;
      low : 5 * slots ≤ l.before;
      high : l.before < cell_count slots;
      read : WasRead now (next_cell slots l.slot);
      next : (st : State) → Matches now st → l.next ≡ (after now st).value (next_cell slots l.slot);
      walks : (st : State) (held : List Held) (e : Ranked) → Matches now st → (chained : AreChained slots (after old st) held)
          → Distinct nat_eq (slots_of held) → Has (record { slot = l.slot; entry = e }) held → label_of e ≡ l.label
          → (lt : bucket slots (label_of e) < slots) → length held ≤ slots
          → Walks slots l.slot (after old st)
          (leading slots l.slot (bucket_cell slots (bucket slots (label_of e)))
          (chained (bucket slots (label_of e)) lt).chain) l.before l.counter;
    }
