use Rattle.std.proofs.Common.{◌≡◌, ℕ, subst}
use Rattle.std.specs.Prelude.{IfOk}
use Rattle.cells.specs.Slots.{proof_cell}
use Rattle.cells.specs.Sight.{ReadsWithin}
use Rattle.cells.specs.Aside.{KeepsAside}
use Rattle.cells.proofs.Settings.{small_slot}
use Rattle.chains.proofs.filling.put_proof.Goals as goal

pub proof_cell-requires : goal.proof_cell-requires
proof_cell-requires g c = small_slot _ (g.met.C.Cells.grounded c.args.cells.now) c.args.slot c.requires.slot

pub returns-in_ok-proof-in-Theorem-clause-keeps : goal.returns-in_ok-proof-in-Theorem-clause-keeps
returns-in_ok-proof-in-Theorem-clause-keeps g c =
    let old = g.C.Cells.sight c.args.cells.now in
    let new = g.C.Cells.sight c.put_body.new.cells in
    subst (λ (n : ℕ). IfOk c.put_body.result (λ _. KeepsAside (λ k. k ≡ n) old new)) c.proof_cell.ensures c.put_body.ensures.keeps

pub returns-in_ok-proof-in-Theorem-clause-reads : goal.returns-in_ok-proof-in-Theorem-clause-reads
returns-in_ok-proof-in-Theorem-clause-reads g c =
    subst (λ (n : ℕ). ReadsWithin (λ k. k ≡ n) (g.C.Cells.sight c.args.cells.now)
    (g.C.Cells.sight c.put_body.new.cells)) c.proof_cell.ensures
    c.put_body.ensures.reads
