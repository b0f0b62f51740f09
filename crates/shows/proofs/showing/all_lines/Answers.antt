use Rattle.std.proofs.Common.{◌≡◌, ◌<◌, ◌++◌, [], ◌∷◌, Some, None, sym, subst, arith}
use Rattle.library.specs.Edits.{listing_line}
use Rattle.shows.specs.Listing.{TellsLine}
use Rattle.cells.specs.Lookups.{TellsLabelOf}
use Rattle.cells.proofs.Settings.{same_slots}
use Rattle.cells.proofs.Sights.{looks_refl, looks_trans}
use Rattle.shows.proofs.Below.{told_none, one_empty, one_full, whole_told}
use Rattle.library.specs.declared.command.Command.TheVariants as command
use Rattle.groundwork.specs.Footprints.{ReadsFor}
use Rattle.cells.proofs.Asking.{nothing_same, asks_nothing}
use Rattle.shows.proofs.ShowReads.{list_name, list_line}
use Rattle.shows.proofs.showing.all_lines.Goals as goal
use Rattle.shows.proofs.showing.all_lines.Goals.{in-Some+in_ok-line+in_ok-push, in_default}

pub loop-slot-init : goal.loop-slot-init
loop-slot-init g c =
    let old = g.C.Cells.sight c.args.cells.now in
    record {
      looks = looks_refl _;
      lines = λ st lib v. told_none listing_line old.setting.slots _ _ lib c.new-lines.ensures.items;
      reads =
          λ st lib m v. asks_nothing (nothing_same _);
    }

pub returns-in_err-label-clause-looks : goal.returns-in_err-label-clause-looks
returns-in_err-label-clause-looks g c = looks_trans _ _ _ c.loop-slot.invariant.looks c.label.ensures.looks

pub returns-in_err-line-clause-looks : goal.returns-in_err-line-clause-looks
returns-in_err-line-clause-looks g c =
    looks_trans _ _ _ c.loop-slot.invariant.looks (looks_trans _ _ _ c.label.ensures.looks c.line.ensures.looks)

pub returns-in_err-push-clause-looks : goal.returns-in_err-push-clause-looks
returns-in_err-push-clause-looks g c =
    looks_trans _ _ _ c.loop-slot.invariant.looks (looks_trans _ _ _ c.label.ensures.looks c.line.ensures.looks)

pub loop-slot-preserved : goal.loop-slot-preserved
loop-slot-preserved g c =
    let old = g.C.Cells.sight c.args.cells.now in
    let r = g.C.Cells.sight c.loop-slot.cells in
    let s = g.C.Cells.sight c.label.new.cells in
    let slots = (g.C.Cells.sight c.args.cells.now).setting.slots in
    let k = c.loop-slot.slot in
    let made = c.loop-slot.lines.items in
    let lines = c.loop-slot.invariant.lines in
    let onto = looks_trans _ _ _ c.loop-slot.invariant.looks c.label.ensures.looks in
    let told : TellsLabelOf s k c.in_ok-label.field-0 = c.in_ok-label.ensures.ok in
    let is = sym (same_slots old s onto) in
    let inside : k < slots = omega (arith, c.loop-slot-test.true, c.slot_count-slot-end.ensures.value) in
    let named : ReadsFor old s command.List =
    list_name old r s k c.loop-slot.invariant.looks inside c.loop-slot.invariant.reads c.label.ensures.looks c.label.ensures.reads in
    elim c.match-branch-2.branch [
      | in-Some+in_ok-line+in_ok-push w ↦
          let t = g.C.Cells.sight w.line.new.cells in
          let push : w.push.new.self.items ≡ made ++ w.in_ok-line.field-0 ∷ [] = w.in_ok-push.ensures.items in
          let on = w.line.ensures.looks in
          let yes : TellsLabelOf s k (Some w.in-Some.label) = subst (TellsLabelOf s k) w.in-Some.is told in
          let line_is : TellsLine t k w.in_ok-line.field-0 = w.in_ok-line.ensures.ok in
          let more : ReadsFor old t command.List = list_line old s t k onto inside named on yes.0 w.line.ensures.reads in
          rw (w.cells-is, w.lines-is) (record {
            looks = looks_trans _ _ _ onto on;
            reads = more;
            lines = one_full listing_line r s slots k is c.label.ensures.looks made lines t on yes.0 w.in_ok-line.field-0
                w.push.new.self.items
                line_is push;
          })
      | in_default w ↦
          let no : TellsLabelOf s k None = subst (TellsLabelOf s k) w.in_default.is told in
          rw (w.cells-is, w.lines-is) (record {
            looks = onto;
            lines =
                one_empty listing_line r s slots k is c.label.ensures.looks made lines no;
            reads = named;
          })
    ]

pub returns-clause-ok : goal.returns-clause-ok
returns-clause-ok g c =
    let end = c.slot_count-slot-end.ensures.value in
    let upto = c.loop-slot.auto.slot-end in
    let lines = c.loop-slot.invariant.lines in
    whole_told listing_line _ _ c.loop-slot.slot c.loop-slot.lines.items c.loop-slot.invariant.looks (omega (arith, end, upto)) lines

pub returns-in_err-label-clause-reads : goal.returns-in_err-label-clause-reads
returns-in_err-label-clause-reads g c =
    let old = g.C.Cells.sight c.args.cells.now in
    let r = g.C.Cells.sight c.loop-slot.cells in
    let s = g.C.Cells.sight c.label.new.cells in
    let slots = (g.C.Cells.sight c.args.cells.now).setting.slots in
    let k = c.loop-slot.slot in
    let inside : c.loop-slot.slot < (g.C.Cells.sight c.args.cells.now).setting.slots =
    omega (arith, c.loop-slot-test.true, c.slot_count-slot-end.ensures.value) in
    let named : ReadsFor old s command.List =
    list_name old r s k c.loop-slot.invariant.looks inside c.loop-slot.invariant.reads c.label.ensures.looks c.label.ensures.reads in
    named

pub returns-in_err-line-clause-reads : goal.returns-in_err-line-clause-reads
returns-in_err-line-clause-reads g c =
    let old = g.C.Cells.sight c.args.cells.now in
    let r = g.C.Cells.sight c.loop-slot.cells in
    let s = g.C.Cells.sight c.label.new.cells in
    let slots = (g.C.Cells.sight c.args.cells.now).setting.slots in
    let k = c.loop-slot.slot in
    let inside : c.loop-slot.slot < (g.C.Cells.sight c.args.cells.now).setting.slots =
    omega (arith, c.loop-slot-test.true, c.slot_count-slot-end.ensures.value) in
    let named : ReadsFor old s command.List =
    list_name old r s k c.loop-slot.invariant.looks inside c.loop-slot.invariant.reads c.label.ensures.looks c.label.ensures.reads in
    let t = g.C.Cells.sight c.line.new.cells in
    let onto = looks_trans _ _ _ c.loop-slot.invariant.looks c.label.ensures.looks in
    let told : TellsLabelOf s c.loop-slot.slot c.in_ok-label.field-0 = c.in_ok-label.ensures.ok in
    let yes : TellsLabelOf s c.loop-slot.slot (Some c.in-Some.label) = subst (TellsLabelOf s k) c.in-Some.is told in
    list_line old s t k onto inside named c.line.ensures.looks yes.0 c.line.ensures.reads

pub returns-in_err-push-clause-reads : goal.returns-in_err-push-clause-reads
returns-in_err-push-clause-reads g c =
    let old = g.C.Cells.sight c.args.cells.now in
    let r = g.C.Cells.sight c.loop-slot.cells in
    let s = g.C.Cells.sight c.label.new.cells in
    let slots = (g.C.Cells.sight c.args.cells.now).setting.slots in
    let k = c.loop-slot.slot in
    let inside : c.loop-slot.slot < (g.C.Cells.sight c.args.cells.now).setting.slots =
    omega (arith, c.loop-slot-test.true, c.slot_count-slot-end.ensures.value) in
    let named : ReadsFor old s command.List =
    list_name old r s k c.loop-slot.invariant.looks inside c.loop-slot.invariant.reads c.label.ensures.looks c.label.ensures.reads in
    let t = g.C.Cells.sight c.line.new.cells in
    let onto = looks_trans _ _ _ c.loop-slot.invariant.looks c.label.ensures.looks in
    let told : TellsLabelOf s c.loop-slot.slot c.in_ok-label.field-0 = c.in_ok-label.ensures.ok in
    let yes : TellsLabelOf s c.loop-slot.slot (Some c.in-Some.label) = subst (TellsLabelOf s k) c.in-Some.is told in
    list_line old s t k onto inside named c.line.ensures.looks yes.0 c.line.ensures.reads
