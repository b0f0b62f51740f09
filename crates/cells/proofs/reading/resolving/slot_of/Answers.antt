use Rattle.std.proofs.Common.{◌≡◌, List, ℕ, [], None, Some, get_or, subst, ◌∙◌, arith}
use Rattle.std.proofs.lemmas.List.{get_or_default}
use Rattle.cells.specs.Lookups.{Finds}
use Rattle.cells.proofs.Settings.{small_slot}
use Rattle.cells.proofs.Resolving.{found_later, found_more}
use Rattle.cells.proofs.reading.resolving.slot_of.Goals as goal

pub returns-in_err-slot-clause-found : goal.returns-in_err-slot-clause-found
returns-in_err-slot-clause-found g c =
    found_later (g.C.Cells.sight c.args.cells.now)
    (g.C.Cells.sight c.find.new.cells) c.args.labels.now c.args.found.now c.find.ensures.looks
    c.requires.found

pub returns-in_default-2-clause-found : goal.returns-in_default-2-clause-found
returns-in_default-2-clause-found g c =
    found_later (g.C.Cells.sight c.args.cells.now)
    (g.C.Cells.sight c.find.new.cells) c.args.labels.now c.args.found.now c.find.ensures.looks
    c.requires.found

pub returns-in_default-2-clause-ok : goal.returns-in_default-2-clause-ok
returns-in_default-2-clause-ok g c =
    let s = g.C.Cells.sight c.find.new.cells in
    let labels = c.args.labels.now in
    let at : c.as_slice.result.now ≡ get_or labels c.args.n [] =
    c.as_slice.ensures ∙ c.index-labels-n.is ∙ get_or_default labels c.args.n c.index-labels-n.result [] c.requires.within in
    subst (λ (l : List ℕ). Finds s l None) at (subst (Finds s c.as_slice.result.now) c.in_default-2.is c.in_ok-slot.ensures.ok)

pub returns-clause-found : goal.returns-clause-found
returns-clause-found g c =
    let s = g.C.Cells.sight c.find.new.cells in
    let labels = c.args.labels.now in
    let at : c.as_slice.result.now ≡ get_or labels c.args.n [] =
    c.as_slice.ensures ∙ c.index-labels-n.is ∙ get_or_default labels c.args.n c.index-labels-n.result [] c.requires.within in
    found_more (g.C.Cells.sight c.args.cells.now) s labels c.args.found.now c.args.n c.in-Some-2.slot c.find.ensures.looks c.requires.within
    c.requires.found
    (subst (λ (l : List ℕ). Finds s l (Some c.in-Some-2.slot)) at
    (subst (Finds s c.as_slice.result.now) c.in-Some-2.is c.in_ok-slot.ensures.ok))

pub overflow_cast-found : goal.overflow_cast-found
overflow_cast-found g c =
    let x = c.find.new.cells in
    let at = subst (Finds (g.C.Cells.sight x) c.as_slice.result.now) c.in-Some-2.is c.in_ok-slot.ensures.ok in
    let small = small_slot (g.C.Cells.sight x) (g.met.C.Cells.grounded x) c.in-Some-2.slot at.0 in
    omega (arith, small)

pub overflow_cast-result : goal.overflow_cast-result
overflow_cast-result g c =
    let x = c.find.new.cells in
    let at = subst (Finds (g.C.Cells.sight x) c.as_slice.result.now) c.in-Some-2.is c.in_ok-slot.ensures.ok in
    let small = small_slot (g.C.Cells.sight x) (g.met.C.Cells.grounded x) c.in-Some-2.slot at.0 in
    omega (arith, small)
