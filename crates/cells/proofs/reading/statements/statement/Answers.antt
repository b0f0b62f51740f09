use Rattle.std.proofs.Common.{◌≡◌, ℕ, sym, subst, ◌∙◌}
use Rattle.bodystore.specs.Bodies.{statement_of, statement_body}
use Rattle.cells.specs.Slots.{statement_cell}
use Rattle.cells.specs.Sight.{after}
use Rattle.cells.specs.Lookups.{AreWordsOf}
use Rattle.cells.proofs.Small.{statement_small}
use Rattle.cells.proofs.Asking.{asks_cell}
use Rattle.cells.proofs.Settings.{small_slot}
use Rattle.cells.proofs.reading.statements.statement.Goals as goal

pub statement_cell-requires : goal.statement_cell-requires
statement_cell-requires g c = small_slot _ (g.met.C.Cells.grounded c.args.cells.now) c.args.slot c.requires

pub returns-clause-ok : goal.returns-clause-ok
returns-clause-ok g c = λ st lib v e at h.
    let s = g.C.Cells.sight c.words_of.new.cells in
    let words = c.in_ok-words.words.items in
    let are : AreWordsOf (after s st) (statement_cell c.args.slot) words =
    subst (λ (n : ℕ). AreWordsOf (after s st) n words) c.statement_cell.ensures (c.in_ok-words.ensures.ok st v.matches) in
    let body = statement_body (statement_of e.assertion) in
    let same : body ≡ words = sym (are.body body h.statement) in
    c.in_ok-decode_statement.ensures (statement_of e.assertion) (statement_small s.setting lib v.verifies e at) (same
    ∙ sym c.as_slice.ensures.value)

pub returns-in_err-words-clause-reads : goal.returns-in_err-words-clause-reads
returns-in_err-words-clause-reads g c = asks_cell c.statement_cell.ensures c.words_of.ensures.reads

pub returns-in_err-decode_statement-clause-reads : goal.returns-in_err-decode_statement-clause-reads
returns-in_err-decode_statement-clause-reads g c = asks_cell c.statement_cell.ensures c.words_of.ensures.reads

pub returns-clause-reads : goal.returns-clause-reads
returns-clause-reads g c = asks_cell c.statement_cell.ensures c.words_of.ensures.reads
