use Rattle.std.proofs.Common.{◌≡◌, ◌++◌, List, [], ◌∷◌, Some, None, sym, subst, arith}
use Rattle.std.specs.Prelude.{IsPermutation}
use Rattle.std.proofs.lemmas.List.{map-id}
use Rattle.library.specs.declared.library.Ranked.{Ranked}
use Rattle.cells.specs.Lookups.{TellsLabelOf}
use Rattle.cells.proofs.Settings.{same_slots}
use Rattle.cells.proofs.Sights.{looks_refl, looks_trans}
use Rattle.shows.proofs.Below.{itself, told_none, one_empty, one_full, whole_told}
use Rattle.shows.proofs.looking.entries.Goals as goal
use Rattle.shows.proofs.looking.entries.Goals.{in-Some+in_ok-entry+in_ok-push, in_default}

pub loop-slot-init : goal.loop-slot-init
loop-slot-init g c =
    let old = g.C.Cells.sight c.args.cells.now in
    record { looks = looks_refl _; entries = λ st lib v. told_none itself old.setting.slots _ _ lib c.new-entries.ensures.items }

pub returns-in_err-label-clause-looks : goal.returns-in_err-label-clause-looks
returns-in_err-label-clause-looks g c = looks_trans _ _ _ c.loop-slot.invariant.looks c.label.ensures.looks

pub returns-in_err-entry-clause-looks : goal.returns-in_err-entry-clause-looks
returns-in_err-entry-clause-looks g c =
    looks_trans _ _ _ c.loop-slot.invariant.looks (looks_trans _ _ _ c.label.ensures.looks c.entry.ensures.looks)

pub returns-in_err-push-clause-looks : goal.returns-in_err-push-clause-looks
returns-in_err-push-clause-looks g c =
    looks_trans _ _ _ c.loop-slot.invariant.looks (looks_trans _ _ _ c.label.ensures.looks c.entry.ensures.looks)

pub loop-slot-preserved : goal.loop-slot-preserved
loop-slot-preserved g c =
    let old = g.C.Cells.sight c.args.cells.now in
    let r = g.C.Cells.sight c.loop-slot.cells in
    let s = g.C.Cells.sight c.label.new.cells in
    let slots = (g.C.Cells.sight c.args.cells.now).setting.slots in
    let k = c.loop-slot.slot in
    let made = c.loop-slot.entries.items in
    let entries = c.loop-slot.invariant.entries in
    let onto = looks_trans _ _ _ c.loop-slot.invariant.looks c.label.ensures.looks in
    let told : TellsLabelOf s k c.in_ok-label.field-0 = c.in_ok-label.ensures.ok in
    let is = sym (same_slots old s onto) in
    elim c.match-branch-2.branch [
      | in-Some+in_ok-entry+in_ok-push w ↦
          let t = g.C.Cells.sight w.entry.new.cells in
          let push : w.push.new.self.items ≡ made ++ w.in_ok-entry.field-0 ∷ [] = w.in_ok-push.ensures.items in
          let on = w.entry.ensures.looks in
          let yes : TellsLabelOf s k (Some w.in-Some.label) = subst (TellsLabelOf s k) w.in-Some.is told in
          rw (w.cells-is, w.entries-is) (record {
            looks = looks_trans _ _ _ onto on;
            entries = one_full itself r s slots k is c.label.ensures.looks made entries t on yes.0 w.in_ok-entry.field-0
                w.push.new.self.items w.in_ok-entry.ensures.ok push;
          })
      | in_default w ↦
          let no : TellsLabelOf s k None = subst (TellsLabelOf s k) w.in_default.is told in
          rw (w.cells-is, w.entries-is) (record {
            looks = onto;
            entries = one_empty itself r s slots k is c.label.ensures.looks made entries no;
          })
    ]

pub returns-clause-ok : goal.returns-clause-ok
returns-clause-ok g c = λ st lib v.
    let end = c.slot_count-slot-end.ensures.value in
    let upto = c.loop-slot.auto.slot-end in
    let made = c.loop-slot.entries.items in
    let entries = c.loop-slot.invariant.entries in
    let told = whole_told itself _ _ c.loop-slot.slot made c.loop-slot.invariant.looks (omega (arith, end, upto)) entries in
    subst (λ (es : List Ranked). IsPermutation es made) (map-id lib) (told st lib v)
