use Rattle.std.proofs.Common.{ℕ, List, None, refl, sym, subst}
use Rattle.cells.specs.Lookups.{Finds}
use Rattle.groundwork.specs.Known.{TellsUnknown}
use Rattle.cells.specs.Footprints.{ReadsWhere, IsOfLook}
use Rattle.groundwork.proofs.known.known_slot.Goals as goal

pub returns-in_default-clause-err : goal.returns-in_default-clause-err
returns-in_default-clause-err g c =
    let s = g.C.Cells.sight c.find.new.cells in
    let label = c.args.label.now in
    let finds : Finds s c.args.label.now None =
    subst (Finds s c.args.label.now) c.in_default.is
    (subst (λ (l : List ℕ). Finds s l c.in_ok-slot.field-0) c.as_slice.ensures c.in_ok-slot.ensures.ok) in
    subst (TellsUnknown s label) (sym c.into.ensures) (refl, finds)

pub returns-in_err-slot-clause-reads : goal.returns-in_err-slot-clause-reads
returns-in_err-slot-clause-reads g c =
    let s0 = g.C.Cells.sight c.args.cells.now in
    let s1 = g.C.Cells.sight c.find.new.cells in
    subst (λ (l : List ℕ). ReadsWhere (IsOfLook s0.setting.slots l) s0 s1) c.as_slice.ensures c.find.ensures.reads

pub returns-in_default-clause-reads : goal.returns-in_default-clause-reads
returns-in_default-clause-reads g c =
    let s0 = g.C.Cells.sight c.args.cells.now in
    let s1 = g.C.Cells.sight c.find.new.cells in
    subst (λ (l : List ℕ). ReadsWhere (IsOfLook s0.setting.slots l) s0 s1) c.as_slice.ensures c.find.ensures.reads

pub returns-clause-reads : goal.returns-clause-reads
returns-clause-reads g c =
    let s0 = g.C.Cells.sight c.args.cells.now in
    let s1 = g.C.Cells.sight c.find.new.cells in
    subst (λ (l : List ℕ). ReadsWhere (IsOfLook s0.setting.slots l) s0 s1) c.as_slice.ensures c.find.ensures.reads
