use Rattle.std.proofs.Common.{◌≡◌, [], get_or, ap, subst}
use Rattle.mmsyntax.specs.declared.statement.Step.TheVariants.{Cite}
use Rattle.mmsyntax.specs.ProofWords.{step_in}
use Rattle.cells.specs.Lookups.{Finds}
use Rattle.cells.proofs.Sights.{looks_refl}
use Rattle.cells.proofs.Along.{where_same, where_trans}
use Rattle.cells.proofs.Resolving.{found_stored, none_stored}
use Rattle.cells.proofs.reading.resolving.stored_step.Goals as goal

pub returns-in-Some-clause-ok : goal.returns-in-Some-clause-ok
returns-in-Some-clause-ok g c =
    let s = g.C.Cells.sight c.slot_of.new.cells in
    let labels = c.args.labels.now in
    let label = get_or labels c.in-Cite.n [] in
    let is : step_in labels c.args.step ≡ Cite label = ap (step_in labels) c.in-Cite.is in
    found_stored s label c.in-Some.slot (step_in labels c.args.step) is (subst (Finds s label) c.in-Some.is c.in_ok-slot-in-Cite.ensures.ok)

pub returns-in-None-clause-ok : goal.returns-in-None-clause-ok
returns-in-None-clause-ok g c =
    let s = g.C.Cells.sight c.slot_of.new.cells in
    let labels = c.args.labels.now in
    let label = get_or labels c.in-Cite.n [] in
    let is : step_in labels c.args.step ≡ Cite label = ap (step_in labels) c.in-Cite.is in
    none_stored s label (step_in labels c.args.step) is (subst (Finds s label) c.in-None.is c.in_ok-slot-in-Cite.ensures.ok)

pub returns-in_err-slot-in-Cite-clause-reads : goal.returns-in_err-slot-in-Cite-clause-reads
returns-in_err-slot-in-Cite-clause-reads g c =
    let old = g.C.Cells.sight c.args.cells.now in
    let labels = c.args.labels.now in
    let label = get_or labels c.in-Cite.n [] in
    let is : step_in labels c.args.step ≡ Cite label = ap (step_in labels) c.in-Cite.is in
    where_trans (where_same old) (looks_refl old) c.slot_of.ensures.looks.onward c.slot_of.ensures.reads (λ st k at. (label, is, at))

pub returns-in-Some-clause-reads : goal.returns-in-Some-clause-reads
returns-in-Some-clause-reads g c =
    let old = g.C.Cells.sight c.args.cells.now in
    let labels = c.args.labels.now in
    let label = get_or labels c.in-Cite.n [] in
    let is : step_in labels c.args.step ≡ Cite label = ap (step_in labels) c.in-Cite.is in
    where_trans (where_same old) (looks_refl old) c.slot_of.ensures.looks.onward c.slot_of.ensures.reads (λ st k at. (label, is, at))

pub returns-in-None-clause-reads : goal.returns-in-None-clause-reads
returns-in-None-clause-reads g c =
    let old = g.C.Cells.sight c.args.cells.now in
    let labels = c.args.labels.now in
    let label = get_or labels c.in-Cite.n [] in
    let is : step_in labels c.args.step ≡ Cite label = ap (step_in labels) c.in-Cite.is in
    where_trans (where_same old) (looks_refl old) c.slot_of.ensures.looks.onward c.slot_of.ensures.reads (λ st k at. (label, is, at))
