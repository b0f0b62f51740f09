use Rattle.std.proofs.Common.{◌≡◌, ◌≢◌, ◌<◌, ◌*◌, ◌+◌, ℕ, ⊎_elim, inl, inr, refl, sym, ap, subst, ◌∙◌, arith}
use Rattle.std.proofs.lemmas.Bool.{cases_eq}
use Rattle.library.specs.Library.{Setting}
use Rattle.cells.specs.State.{State, with_value}
use Rattle.cells.specs.Slots.{cell_count}
use Rattle.cells.specs.Sight.{Sight, WasWritten, Onward, after}
use Rattle.cells.proofs.Sights.{onward_refl, onward_trans, writes_onward, writes_cell, after_looks, after_writes, setting_kept}
use Rattle.cells.specs.Aside.{IsOfSlot}
use Rattle.cells.proofs.Keeping.{keeps_same, keeps_trans, keeps_wider, keeps_put}
use Rattle.cells.proofs.Asking.{nothing_same, nothing_written, asks_nothing, asks_cell, asks_trans, asks_still}
use Rattle.cells.proofs.Values.{value_there, value_elsewhere}
use Rattle.cells.proofs.Settings.{small_slot}
use Rattle.chains.proofs.filling.vacate.Goals as goal

pub name_cell-requires : goal.name_cell-requires
name_cell-requires g c = small_slot _ (g.met.C.Cells.grounded c.args.cells.now) c.args.slot c.requires.slot

pub loop-part-init : goal.loop-part-init
loop-part-init g c =
    record {
      onward = onward_refl (g.C.Cells.sight c.args.cells.now);
      taken = omega arith;
      keeps = keeps_same (IsOfSlot c.args.slot) (g.C.Cells.sight c.args.cells.now) (g.C.Cells.sight c.args.cells.now) refl;
      reads = asks_nothing (nothing_same _);
      zeros = λ st cell low high. absurd (omega (arith, low, high));
      others = λ st cell out. refl;
      written = λ some. absurd (omega (arith, some));
    }

pub read-requires : goal.read-requires
read-requires g c =
    let at = c.name_cell.ensures in
    let few = c.loop-part-test.true in
    let within = c.requires.slot in
    subst (λ (s : Setting). c.name_cell.result + c.loop-part.part < cell_count s.slots) (sym (setting_kept c.loop-part.invariant.onward))
    (omega (arith, at, few, within))

pub returns-in_err-read-clause-onward : goal.returns-in_err-read-clause-onward
returns-in_err-read-clause-onward g c = onward_trans _ _ _ c.loop-part.invariant.onward c.in_err-read.ensures.err.onward

pub returns-in_err-read-clause-reads : goal.returns-in_err-read-clause-reads
returns-in_err-read-clause-reads g c =
    let at = ap (λ n. n + c.loop-part.part) c.name_cell.ensures in
    asks_trans c.loop-part.invariant.reads
    (asks_cell (omega (arith, at), omega (arith, at, c.loop-part-test.true)) c.read.ensures.reads)

pub write-requires-clause-cell : goal.write-requires-clause-cell
write-requires-clause-cell g c =
    let at = c.name_cell.ensures in
    let few = c.loop-part-test.true in
    let within = c.requires.slot in
    subst (λ (s : Setting). c.name_cell.result + c.loop-part.part < cell_count s.slots)
    (sym ((setting_kept c.in_ok-read.ensures.ok.looks.onward) ∙ (setting_kept c.loop-part.invariant.onward)))
    (omega (arith, at, few, within))

pub loop-part-preserved : goal.loop-part-preserved
loop-part-preserved g c =
    record {
      onward = onward_trans _ _ _ c.loop-part.invariant.onward (onward_trans _ _ _ c.in_ok-read.ensures.ok.looks.onward wrote);
      taken = omega (arith, c.loop-part.invariant.taken, c.in_ok-read.ensures.ok.looks.taken, c.write.ensures.taken);
      keeps = keeps_trans (IsOfSlot c.args.slot) (g.C.Cells.sight c.args.cells.now) now new c.loop-part.invariant.keeps
          (keeps_wider (λ k. k ≡ cell) (IsOfSlot c.args.slot) now new
          (λ k is. (omega (arith, at, is), omega (arith, at, is, c.loop-part-test.true)))
          (keeps_put cell 0 now _ new c.in_ok-read.ensures.ok.looks.writes c.write.ensures));
      reads = asks_still (asks_trans c.loop-part.invariant.reads
          (asks_cell (omega (arith, at), omega (arith, at, c.loop-part-test.true)) c.read.ensures.reads))
          (nothing_written c.write.ensures);
      zeros = λ st other low high. elim (cases_eq other cell) [
        | inl is ↦ ap (λ (x : State). x.value other) (made st) ∙ ap (λ n. (with_value cell 0 (after now st)).value n) is
            ∙ value_there cell 0 (after now st)
        | inr ne ↦ elsewhere st other ne ∙ c.loop-part.invariant.zeros st other low (omega (arith, at, high, ne))
      ];
      others = λ st other out.
          elsewhere st other (λ is. ⊎_elim (λ before. omega (arith, at, before, is)) (λ behind. omega (arith, at, behind, is)) out)
          ∙ c.loop-part.invariant.others st other (⊎_elim (λ before. inl before) (λ behind. inr (omega (arith, behind))) out);
      written = λ some. elim (cases_eq c.loop-part.part 0) [
        | inl none ↦ subst (WasWritten new) (omega (arith, at, none)) (writes_cell cell 0 _ new c.write.ensures)
        | inr more ↦ wrote.written _ (c.in_ok-read.ensures.ok.looks.onward.written _ (c.loop-part.invariant.written (omega (arith, more))))
      ];
    }
  where
    now : Sight g.row.C-Origin.Denot
    now = g.C.Cells.sight c.loop-part.cells

    new : Sight g.row.C-Origin.Denot
    new = g.C.Cells.sight c.write.new.self

    cell : ℕ
    cell = c.name_cell.result + c.loop-part.part

    at : cell ≡ 5 * c.args.slot + c.loop-part.part
    at = ap (λ n. n + c.loop-part.part) c.name_cell.ensures

    wrote : Onward (g.C.Cells.sight c.read.new.self) new
    wrote = writes_onward _ _ _ _ c.write.ensures

    made : (st : State) → after new st ≡ with_value cell 0 (after now st)
    made st = after_writes _ _ _ _ st c.write.ensures ∙ ap (with_value cell 0) (after_looks _ _ st c.in_ok-read.ensures.ok.looks)

    elsewhere : (st : State) (other : ℕ) → other ≢ cell → (after new st).value other ≡ (after now st).value other
    elsewhere st other ne = ap (λ (x : State). x.value other) (made st) ∙ value_elsewhere cell 0 (after now st) other ne

pub returns-clause-onward : goal.returns-clause-onward
returns-clause-onward g c = c.loop-part.invariant.onward

pub returns-clause-ok : goal.returns-clause-ok
returns-clause-ok g c st =
    let all = c.loop-part-test.false in
    let end = c.loop-part.auto.part-end in
    record {
      zeros = λ cell low high. c.loop-part.invariant.zeros st cell low (omega (arith, all, high));
      others = λ cell out. c.loop-part.invariant.others st cell
          (⊎_elim (λ before. inl before) (λ behind. inr (omega (arith, end, behind))) out);
    }

pub returns-clause-written : goal.returns-clause-written
returns-clause-written g c = c.loop-part.invariant.written (omega (arith, c.loop-part-test.false))

pub overflow_add-cell : goal.overflow_add-cell
overflow_add-cell g c =
    let small = small_slot _ (g.met.C.Cells.grounded c.args.cells.now) c.args.slot c.requires.slot in
    omega (arith, small, c.name_cell.ensures, c.loop-part-test.true)
