use Rattle.std.proofs.Common.{◌≡◌, ℕ, List, refl, sym, subst, ◌∙◌}
use Rattle.std.proofs.lemmas.Result.{IfOk-weaker}
use Rattle.mmsyntax.specs.declared.statement.Step.TheVariants.{Cite}
use Rattle.bodystore.specs.declared.stored.StoredStep.TheVariants.{Slot}
use Rattle.cells.specs.Lookups.{IsNameAt, IsStepOf}
use Rattle.cells.specs.Sight.{after}
use Rattle.cells.specs.Shows.{IsNamed}
use Rattle.cells.proofs.Asking.{asks_cell}
use Rattle.cells.proofs.Settings.{same_slots}
use Rattle.cells.proofs.ReadBack.{cite_stored}
use Rattle.cells.proofs.reading.proofs.cited_label.Goals as goal

pub returns-then-slot-slots-clause-ok : goal.returns-then-slot-slots-clause-ok
returns-then-slot-slots-clause-ok g c =
    let s = g.C.Cells.sight c.name_of.new.cells in
    let slot = c.args.slot in
    let same : c.args.slots ≡ s.setting.slots = c.requires ∙ sym (same_slots _ s c.name_of.ensures.looks) in
    IfOk-weaker c.name_of.result (IsNameAt s slot) (λ (made : List ℕ). IsStepOf c.args.slots s (Slot slot) (Cite made))
    (λ made named st x m short is. cite_stored (IsNamed c.args.slots (after s st)) x slot made short is
    (λ label bytes h. named st label m bytes (subst (λ (n : ℕ). IsNamed n (after s st) slot label) same h)))
    c.name_of.ensures.ok

pub returns-then-slot-slots-clause-reads : goal.returns-then-slot-slots-clause-reads
returns-then-slot-slots-clause-reads g c = asks_cell (c.args.slot, refl, refl) c.name_of.ensures.reads
