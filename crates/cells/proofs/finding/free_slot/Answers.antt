use Rattle.std.proofs.Common.{rules, ◌≡◌, ◌<◌, ◌+◌, ◌%◌, ℕ, refl, sym, subst, ◌∙◌, arith}
use Rattle.std.proofs.lemmas.Nat.{mod_below}
use Rattle.cells.specs.Slots.{name_cell}
use Rattle.cells.specs.Sight.{Reads}
use Rattle.cells.specs.Footprints.{ReadsWhere, IsOfRound}
use Rattle.cells.proofs.Along.{where_same, names_on, round_name}
use Rattle.cells.proofs.Sights.{looks_refl, looks_trans}
use Rattle.cells.proofs.Settings.{same_slots}
use Rattle.cells.proofs.Walks.{full_on, free_found, none_free}
use Rattle.cells.proofs.finding.free_slot.Goals as goal

pub returns-in_err-read-clause-looks : goal.returns-in_err-read-clause-looks
returns-in_err-read-clause-looks g c = looks_trans _ _ _ c.loop-steps.invariant.0 c.in_err-read.ensures.err

pub returns-then-branch-eq0-clause-looks : goal.returns-then-branch-eq0-clause-looks
returns-then-branch-eq0-clause-looks g c = looks_trans _ _ _ c.loop-steps.invariant.0 c.in_ok-read.ensures.ok.looks

pub returns-then-branch-eq0-clause-ok : goal.returns-then-branch-eq0-clause-ok
returns-then-branch-eq0-clause-ok g c =
    let old = g.C.Cells.sight c.args.cells.now in
    let between = g.C.Cells.sight c.loop-steps.cells in
    let new = g.C.Cells.sight c.read.new.self in
    let slots = c.slot_count-slots.result in
    let i = (c.args.from + c.loop-steps.steps) % slots in
    let read : Reads (name_cell i) 0 between new = search rules in
    let looks = looks_trans _ _ _ c.loop-steps.invariant.0 read.looks in
    let is : slots ≡ new.setting.slots = c.slot_count-slots.ensures.value ∙ sym (same_slots old new looks) in
    let within : i < slots = mod_below _ slots (omega (arith, c.slot_count-slots.ensures.some)) in
    free_found new slots c.args.from is between c.loop-steps.steps i read.looks within refl c.loop-steps.invariant.1 read

pub loop-steps-preserved : goal.loop-steps-preserved
loop-steps-preserved g c =
    let between = g.C.Cells.sight c.loop-steps.cells in
    let new = g.C.Cells.sight c.read.new.self in
    let slots = c.slot_count-slots.result in
    let i = (c.args.from + c.loop-steps.steps) % slots in
    let read : Reads (name_cell i) c.in_ok-read.field-0 between new = search rules in (
      looks_trans _ _ _ c.loop-steps.invariant.0 read.looks,
      full_on between new slots c.args.from c.loop-steps.steps i c.in_ok-read.field-0 c.loop-steps.invariant.1 read c.if-branch-eq0.false
          refl,
      names_on i c.loop-steps.invariant.2 read c.if-branch-eq0.false refl,
      round_name c.loop-steps.invariant.3 c.loop-steps.invariant.0 c.loop-steps.invariant.2 c.name_cell.ensures read.looks.onward
          c.read.ensures.reads,
    )

pub returns-clause-ok : goal.returns-clause-ok
returns-clause-ok g c =
    let old = g.C.Cells.sight c.args.cells.now in
    let new = g.C.Cells.sight c.loop-steps.cells in
    let slots = c.slot_count-slots.result in
    let inv = c.loop-steps.invariant in
    let is : slots ≡ new.setting.slots = c.slot_count-slots.ensures.value ∙ sym (same_slots old new inv.0) in
    let from : c.args.from < slots = subst (λ (n : ℕ). c.args.from < n) (sym c.slot_count-slots.ensures.value) c.requires in
    none_free new slots c.args.from is c.loop-steps.steps from (omega arith) inv.1

pub loop-steps-init : goal.loop-steps-init
loop-steps-init g c =
    let old = g.C.Cells.sight c.args.cells.now in
    (looks_refl old, λ k lt. absurd (omega (arith, lt)), record { each = λ st m j lt. absurd (omega (arith, lt)) }, where_same old)

pub returns-in_err-read-clause-reads : goal.returns-in_err-read-clause-reads
returns-in_err-read-clause-reads g c =
    subst (λ (n : ℕ). ReadsWhere (IsOfRound n c.args.from) (g.C.Cells.sight c.args.cells.now) (g.C.Cells.sight c.read.new.self))
    c.slot_count-slots.ensures.value
    (round_name c.loop-steps.invariant.3 c.loop-steps.invariant.0 c.loop-steps.invariant.2 c.name_cell.ensures
    c.in_err-read.ensures.err.onward
    c.read.ensures.reads)

pub returns-then-branch-eq0-clause-reads : goal.returns-then-branch-eq0-clause-reads
returns-then-branch-eq0-clause-reads g c =
    subst (λ (n : ℕ). ReadsWhere (IsOfRound n c.args.from) (g.C.Cells.sight c.args.cells.now) (g.C.Cells.sight c.read.new.self))
    c.slot_count-slots.ensures.value
    (round_name c.loop-steps.invariant.3 c.loop-steps.invariant.0 c.loop-steps.invariant.2 c.name_cell.ensures
    c.in_ok-read.ensures.ok.looks.onward
    c.read.ensures.reads)

pub returns-clause-reads : goal.returns-clause-reads
returns-clause-reads g c =
    subst (λ (n : ℕ). ReadsWhere (IsOfRound n c.args.from) (g.C.Cells.sight c.args.cells.now) (g.C.Cells.sight c.loop-steps.cells))
    c.slot_count-slots.ensures.value
    (c.loop-steps.invariant.3)
