-- What is left to show of `put_statement`.
use Rattle.std.proofs.Common.{◌≡◌, ℕ, subst}
use Rattle.std.specs.Prelude.{IfOk}
use Rattle.cells.specs.Slots.{statement_cell}
use Rattle.cells.specs.Sight.{ReadsWithin}
use Rattle.cells.specs.Aside.{KeepsAside}
use Rattle.cells.proofs.Settings.{small_slot}
use Rattle.chains.proofs.filling.put_statement.Goals as goal

pub statement_cell-requires : goal.statement_cell-requires
statement_cell-requires g c = small_slot _ (g.met.C.Cells.grounded c.args.cells.now) c.args.slot c.requires.slot

pub returns-clause-keeps : goal.returns-clause-keeps
returns-clause-keeps g c =
    let old = g.C.Cells.sight c.args.cells.now in
    let new = g.C.Cells.sight c.put_body.new.cells in
    subst (λ (n : ℕ). IfOk c.put_body.result (λ _. KeepsAside (λ k. k ≡ n) old new)) c.statement_cell.ensures c.put_body.ensures.keeps

pub returns-clause-reads : goal.returns-clause-reads
returns-clause-reads g c =
    subst (λ (n : ℕ). ReadsWithin (λ k. k ≡ n) (g.C.Cells.sight c.args.cells.now)
    (g.C.Cells.sight c.put_body.new.cells)) c.statement_cell.ensures
    c.put_body.ensures.reads
