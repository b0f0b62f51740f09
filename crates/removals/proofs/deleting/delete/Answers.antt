use Rattle.std.proofs.Common.{◌≡◌, sym, ◌∙◌, inl, inr, arith}
use Rattle.library.specs.declared.command.Command.TheVariants as command
use Rattle.library.specs.declared.reason.Reason.TheVariants as reason
use Rattle.cells.proofs.Sights.{onward_trans, looks_trans}
use Rattle.cells.proofs.Resolving.{finds_after}
use Rattle.groundwork.proofs.Touching.{keeps_to_since}
use Rattle.removals.proofs.Touching.{delete_keeps}
use Rattle.groundwork.proofs.Refusing.{of_none, refused, answers_refused, answers_ended, answers_unknown}
use Rattle.removals.proofs.Removing.{CountsCiters, delete_cited, counted, deleted}
use Rattle.cells.specs.Slots.{citers_cell}
use Rattle.groundwork.specs.Footprints.{ReadsFor}
use Rattle.groundwork.proofs.Since.{first_look, then_cells, then_found, of_slot}
use Rattle.std.proofs.lemmas.Result.{err_from_is_err_and}
use Rattle.removals.proofs.deleting.delete.Goals as goal

pub returns-in_err-slot-clause-answers : goal.returns-in_err-slot-clause-answers
returns-in_err-slot-clause-answers g c =
    let s0 = g.C.Cells.sight c.args.cells.now in
    let s1 = g.C.Cells.sight c.known_slot.new.cells in
    let label = c.args.label.now in
    let x = command.Delete c.args.label.now in
    answers_unknown s0 s1 x label c.from_residual.result c.in_err-slot.field-0.0 c.from_residual.ensures.1 c.in_err-slot.ensures.err
    (λ none. refused s0 s1 x reason.UnknownLabel c.known_slot.ensures.looks (λ st lib v. of_none lib label _ (none st lib v)))

pub returns-in_err-citers-clause-onward : goal.returns-in_err-citers-clause-onward
returns-in_err-citers-clause-onward g c = onward_trans _ _ _ c.known_slot.ensures.looks.onward c.citers.ensures.looks.onward

pub returns-then-citers-gt0-clause-onward : goal.returns-then-citers-gt0-clause-onward
returns-then-citers-gt0-clause-onward g c = onward_trans _ _ _ c.known_slot.ensures.looks.onward c.citers.ensures.looks.onward

pub returns-then-citers-gt0-clause-answers : goal.returns-then-citers-gt0-clause-answers
returns-then-citers-gt0-clause-answers g c =
    let s0 = g.C.Cells.sight c.args.cells.now in
    let s1 = g.C.Cells.sight c.known_slot.new.cells in
    let s2 = g.C.Cells.sight c.citers.new.cells in
    let label = c.args.label.now in
    let finds = c.in_ok-slot.ensures.ok in
    let counts : CountsCiters s2 c.args.label.now c.in_ok-citers.citers =
    counted s1 s2 c.in_ok-slot.slot label c.in_ok-citers.citers c.citers.ensures.looks finds c.in_ok-citers.ensures.ok in
    let n = c.in_ok-citers.citers in
    answers_refused s0 s2 (command.Delete label) (reason.StillCited n) c.into.result c.into.ensures
    (refused s0 s2 (command.Delete label) (reason.StillCited n) (looks_trans _ _ _ c.known_slot.ensures.looks c.citers.ensures.looks)
    (λ st lib v.
    let e = counts st lib v in delete_cited s0.setting lib label e.0 e.1 n e.2 c.if-citers-gt0.true))

pub returns-in_err-remove-clause-onward : goal.returns-in_err-remove-clause-onward
returns-in_err-remove-clause-onward g c =
    onward_trans _ _ _ c.known_slot.ensures.looks.onward (onward_trans _ _ _ c.citers.ensures.looks.onward c.remove.ensures.onward)

pub returns-clause-onward : goal.returns-clause-onward
returns-clause-onward g c =
    onward_trans _ _ _ c.known_slot.ensures.looks.onward (onward_trans _ _ _ c.citers.ensures.looks.onward c.remove.ensures.onward)

pub returns-clause-answers : goal.returns-clause-answers
returns-clause-answers g c =
    let s0 = g.C.Cells.sight c.args.cells.now in
    let s1 = g.C.Cells.sight c.known_slot.new.cells in
    let s2 = g.C.Cells.sight c.citers.new.cells in
    let label = c.args.label.now in
    let finds = c.in_ok-slot.ensures.ok in
    let counts : CountsCiters s2 c.args.label.now c.in_ok-citers.citers =
    counted s1 s2 c.in_ok-slot.slot label c.in_ok-citers.citers c.citers.ensures.looks finds c.in_ok-citers.ensures.ok in
    let s3 = g.C.Cells.sight c.remove.new.cells in
    let none : c.in_ok-citers.citers ≡ 0 = omega (arith, c.if-citers-gt0.false) in
    deleted s0 s1 s2 s3 c.in_ok-slot.slot label c.known_slot.ensures.looks c.citers.ensures.looks c.remove.ensures.onward finds
    (λ st lib v. let e = counts st lib v in (e.0, e.1, sym none ∙ e.2)) c.in_ok-remove.ensures.ok c.in_ok-remove.ensures.written

pub returns-clause-keeps : goal.returns-clause-keeps
returns-clause-keeps g c =
    let s0 = g.C.Cells.sight c.args.cells.now in
    let s1 = g.C.Cells.sight c.known_slot.new.cells in
    let s2 = g.C.Cells.sight c.citers.new.cells in
    let s3 = g.C.Cells.sight c.remove.new.cells in
    let label = c.args.label.now in
    let finds = c.in_ok-slot.ensures.ok in
    keeps_to_since s0 s2 s3 (command.Delete label)
    (looks_trans _ _ _ c.known_slot.ensures.looks c.citers.ensures.looks) c.remove.ensures.onward
    (delete_keeps s2 s3 c.in_ok-slot.slot label (finds_after s1 s2 label c.in_ok-slot.slot c.citers.ensures.looks finds).1
    c.in_ok-remove.ensures.keeps)

pub returns-in_err-slot-clause-reads : goal.returns-in_err-slot-clause-reads
returns-in_err-slot-clause-reads g c =
    let s0 = g.C.Cells.sight c.args.cells.now in
    let s1 = g.C.Cells.sight c.known_slot.new.cells in
    let label = c.args.label.now in
    let r1 : ReadsFor s0 s1 (command.Delete c.args.label.now) =
    first_look s0 s1 (command.Delete label) label (λ st lib k is. inl is) c.known_slot.ensures.reads in
    r1

pub returns-in_err-citers-clause-reads : goal.returns-in_err-citers-clause-reads
returns-in_err-citers-clause-reads g c =
    let s0 = g.C.Cells.sight c.args.cells.now in
    let s1 = g.C.Cells.sight c.known_slot.new.cells in
    let label = c.args.label.now in
    let r1 : ReadsFor s0 s1 (command.Delete c.args.label.now) =
    first_look s0 s1 (command.Delete label) label (λ st lib k is. inl is) c.known_slot.ensures.reads in
    let s2 = g.C.Cells.sight c.citers.new.cells in
    let i = c.in_ok-slot.slot in
    let finds = c.in_ok-slot.ensures.ok in
    let r2 : ReadsFor s0 s2 (command.Delete c.args.label.now) =
    then_cells s0 s1 s2 (command.Delete label) label i c.known_slot.ensures.looks finds r1 c.citers.ensures.looks.onward (λ k. k
    ≡ citers_cell i)
    (λ st lib at k is. inr (i, at, inr (inl (of_slot i 4 k (omega arith) is)))) c.citers.ensures.reads in
    r2

pub returns-then-citers-gt0-clause-reads : goal.returns-then-citers-gt0-clause-reads
returns-then-citers-gt0-clause-reads g c =
    let s0 = g.C.Cells.sight c.args.cells.now in
    let s1 = g.C.Cells.sight c.known_slot.new.cells in
    let label = c.args.label.now in
    let r1 : ReadsFor s0 s1 (command.Delete c.args.label.now) =
    first_look s0 s1 (command.Delete label) label (λ st lib k is. inl is) c.known_slot.ensures.reads in
    let s2 = g.C.Cells.sight c.citers.new.cells in
    let i = c.in_ok-slot.slot in
    let finds = c.in_ok-slot.ensures.ok in
    let r2 : ReadsFor s0 s2 (command.Delete c.args.label.now) =
    then_cells s0 s1 s2 (command.Delete label) label i c.known_slot.ensures.looks finds r1 c.citers.ensures.looks.onward (λ k. k
    ≡ citers_cell i)
    (λ st lib at k is. inr (i, at, inr (inl (of_slot i 4 k (omega arith) is)))) c.citers.ensures.reads in
    r2

pub returns-in_err-remove-clause-reads : goal.returns-in_err-remove-clause-reads
returns-in_err-remove-clause-reads g c =
    let s0 = g.C.Cells.sight c.args.cells.now in
    let s1 = g.C.Cells.sight c.known_slot.new.cells in
    let label = c.args.label.now in
    let r1 : ReadsFor s0 s1 (command.Delete c.args.label.now) =
    first_look s0 s1 (command.Delete label) label (λ st lib k is. inl is) c.known_slot.ensures.reads in
    let s2 = g.C.Cells.sight c.citers.new.cells in
    let i = c.in_ok-slot.slot in
    let finds = c.in_ok-slot.ensures.ok in
    let r2 : ReadsFor s0 s2 (command.Delete c.args.label.now) =
    then_cells s0 s1 s2 (command.Delete label) label i c.known_slot.ensures.looks finds r1 c.citers.ensures.looks.onward (λ k. k
    ≡ citers_cell i)
    (λ st lib at k is. inr (i, at, inr (inl (of_slot i 4 k (omega arith) is)))) c.citers.ensures.reads in
    let s3 = g.C.Cells.sight c.remove.new.cells in
    then_found s0 s2 s3 (command.Delete label) label i (looks_trans _ _ _ c.known_slot.ensures.looks c.citers.ensures.looks)
    (finds_after s1 s2 label i c.citers.ensures.looks finds) r2 c.remove.ensures.onward c.remove.ensures.reads

pub returns-clause-reads : goal.returns-clause-reads
returns-clause-reads g c =
    let s0 = g.C.Cells.sight c.args.cells.now in
    let s1 = g.C.Cells.sight c.known_slot.new.cells in
    let label = c.args.label.now in
    let r1 : ReadsFor s0 s1 (command.Delete c.args.label.now) =
    first_look s0 s1 (command.Delete label) label (λ st lib k is. inl is) c.known_slot.ensures.reads in
    let s2 = g.C.Cells.sight c.citers.new.cells in
    let i = c.in_ok-slot.slot in
    let finds = c.in_ok-slot.ensures.ok in
    let r2 : ReadsFor s0 s2 (command.Delete c.args.label.now) =
    then_cells s0 s1 s2 (command.Delete label) label i c.known_slot.ensures.looks finds r1 c.citers.ensures.looks.onward (λ k. k
    ≡ citers_cell i)
    (λ st lib at k is. inr (i, at, inr (inl (of_slot i 4 k (omega arith) is)))) c.citers.ensures.reads in
    let s3 = g.C.Cells.sight c.remove.new.cells in
    then_found s0 s2 s3 (command.Delete label) label i (looks_trans _ _ _ c.known_slot.ensures.looks c.citers.ensures.looks)
    (finds_after s1 s2 label i c.citers.ensures.looks finds) r2 c.remove.ensures.onward c.remove.ensures.reads

pub returns-in_err-slot-clause-keeps : goal.returns-in_err-slot-clause-keeps
returns-in_err-slot-clause-keeps g c =
    let p = err_from_is_err_and c.from_residual.result c.from_residual.ensures.1 in rw p.1 tt

pub returns-in_err-citers-clause-keeps : goal.returns-in_err-citers-clause-keeps
returns-in_err-citers-clause-keeps g c =
    let p = err_from_is_err_and c.from_residual-in_err-citers.result c.from_residual-in_err-citers.ensures.1 in rw p.1 tt

pub returns-in_err-remove-clause-keeps : goal.returns-in_err-remove-clause-keeps
returns-in_err-remove-clause-keeps g c =
    let p = err_from_is_err_and c.from_residual-in_err-remove.result c.from_residual-in_err-remove.ensures.1 in rw p.1 tt

pub returns-in_err-slot-clause-taken : goal.returns-in_err-slot-clause-taken
returns-in_err-slot-clause-taken g c st lib m v =
    omega (arith, c.known_slot.ensures.looks.taken)

pub returns-in_err-citers-clause-taken : goal.returns-in_err-citers-clause-taken
returns-in_err-citers-clause-taken g c st lib m v =
    omega (arith, c.known_slot.ensures.looks.taken, c.citers.ensures.looks.taken)

pub returns-then-citers-gt0-clause-taken : goal.returns-then-citers-gt0-clause-taken
returns-then-citers-gt0-clause-taken g c st lib m v =
    omega (arith, c.known_slot.ensures.looks.taken, c.citers.ensures.looks.taken)

pub returns-in_err-remove-clause-taken : goal.returns-in_err-remove-clause-taken
returns-in_err-remove-clause-taken g c st lib m v =
    omega (arith, c.known_slot.ensures.looks.taken, c.citers.ensures.looks.taken, c.remove.ensures.taken)

pub returns-clause-taken : goal.returns-clause-taken
returns-clause-taken g c st lib m v =
    omega (arith, c.known_slot.ensures.looks.taken, c.citers.ensures.looks.taken, c.remove.ensures.taken)

pub returns-then-citers-gt0-clause-keeps : goal.returns-then-citers-gt0-clause-keeps
returns-then-citers-gt0-clause-keeps g c = tt

pub returns-in_err-citers-clause-answers : goal.returns-in_err-citers-clause-answers
returns-in_err-citers-clause-answers g c =
    answers_ended (g.C.Cells.sight c.args.cells.now) (g.C.Cells.sight c.citers.new.cells) (command.Delete c.args.label.now)
    c.from_residual-in_err-citers.result _ c.from_residual-in_err-citers.ensures.1 c.in_err-citers.ensures.halts

pub returns-in_err-remove-clause-answers : goal.returns-in_err-remove-clause-answers
returns-in_err-remove-clause-answers g c =
    answers_ended (g.C.Cells.sight c.args.cells.now) (g.C.Cells.sight c.remove.new.cells) (command.Delete c.args.label.now)
    c.from_residual-in_err-remove.result _ c.from_residual-in_err-remove.ensures.1 c.in_err-remove.ensures.halts
