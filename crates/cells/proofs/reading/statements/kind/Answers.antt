use Rattle.std.proofs.Common.{ℕ, sym, subst}
use Rattle.cells.specs.State.{HasBody}
use Rattle.cells.specs.Sight.{after}
use Rattle.bodystore.specs.Bodies.{statement_body, statement_of}
use Rattle.cells.proofs.Asking.{asks_cell}
use Rattle.cells.proofs.Settings.{small_slot}
use Rattle.cells.proofs.reading.statements.kind.Goals as goal

pub statement_cell-requires : goal.statement_cell-requires
statement_cell-requires g c = small_slot _ (g.met.C.Cells.grounded c.args.cells.now) c.args.slot c.requires

pub returns-clause-ok : goal.returns-clause-ok
returns-clause-ok g c = λ st lib v e at h.
    let new = g.C.Cells.sight c.first_word.new.cells in
    let body = subst (λ (n : ℕ). HasBody (after new st) n (statement_body (statement_of e.assertion)))
    (sym c.statement_cell.ensures) h.statement in
    c.kind_of.ensures e.assertion.kind (sym (c.in_ok-first_word.ensures.ok st _ _ v.matches body))

pub returns-in_err-first_word-clause-reads : goal.returns-in_err-first_word-clause-reads
returns-in_err-first_word-clause-reads g c = asks_cell c.statement_cell.ensures c.first_word.ensures.reads

pub returns-clause-reads : goal.returns-clause-reads
returns-clause-reads g c = asks_cell c.statement_cell.ensures c.first_word.ensures.reads
