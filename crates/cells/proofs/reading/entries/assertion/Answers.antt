use Rattle.std.proofs.Common.{◌≡◌, ◌∙◌, refl, subst, inl, inr}
use Rattle.bodystore.specs.Bodies.{statement_of}
use Rattle.library.specs.Library.{Setting, label_of}
use Rattle.cells.specs.Footprints.{IsOfProof}
use Rattle.cells.specs.Sight.{after}
use Rattle.cells.proofs.Asking.{asks_cell, asks_more}
use Rattle.cells.proofs.Sights.{looks_trans, setting_kept}
use Rattle.cells.proofs.ReadBack.{held_later, assembled}
use Rattle.cells.proofs.reading.entries.assertion.Goals as goal

pub returns-in_err-proof-clause-looks : goal.returns-in_err-proof-clause-looks
returns-in_err-proof-clause-looks g c = looks_trans _ _ _ c.statement.ensures.looks c.proof.ensures.looks

pub returns-clause-looks : goal.returns-clause-looks
returns-clause-looks g c = looks_trans _ _ _ c.statement.ensures.looks c.proof.ensures.looks

pub returns-clause-ok : goal.returns-clause-ok
returns-clause-ok g c = λ st lib v e at h.
    let old = g.C.Cells.sight c.args.cells.now in
    let second = g.C.Cells.sight c.statement.new.cells in
    let s = g.C.Cells.sight c.proof.new.cells in
    let i = c.args.slot in
    let read = c.in_ok-statement.statement in
    let named : c.args.label ≡ label_of e =
    held_later old s i (λ x l f. c.args.label ≡ label_of f) (looks_trans _ _ _ c.statement.ensures.looks c.proof.ensures.looks)
    c.requires.label st lib v e at h in
    let stated : read ≡ statement_of e.assertion =
    held_later second s i (λ x l f. read ≡ statement_of f.assertion) c.proof.ensures.looks c.in_ok-statement.ensures.ok st lib v e at h in
    let proved : c.in_ok-proof.proof ≡ e.assertion.proof = c.in_ok-proof.ensures.ok st lib v e at h in
    c.into_assertion.ensures ∙ assembled e.assertion c.args.label read c.in_ok-proof.proof named stated proved

pub returns-in_err-statement-clause-reads : goal.returns-in_err-statement-clause-reads
returns-in_err-statement-clause-reads g c = λ st lib v e at h. asks_cell (inl refl) c.statement.ensures.reads

pub returns-in_err-proof-clause-reads : goal.returns-in_err-proof-clause-reads
returns-in_err-proof-clause-reads g c = λ st lib v e at h.
    asks_more (asks_cell (inl refl) c.statement.ensures.reads)
    (λ k is. inr (subst (λ (x : Setting). IsOfProof x.slots c.args.slot e.assertion.proof (after (g.C.Cells.sight c.proof.new.cells) st) k)
    (setting_kept c.statement.ensures.looks.onward) is))
    (c.proof.ensures.reads st lib v e at h)

pub returns-clause-reads : goal.returns-clause-reads
returns-clause-reads g c = λ st lib v e at h.
    asks_more (asks_cell (inl refl) c.statement.ensures.reads)
    (λ k is. inr (subst (λ (x : Setting). IsOfProof x.slots c.args.slot e.assertion.proof (after (g.C.Cells.sight c.proof.new.cells) st) k)
    (setting_kept c.statement.ensures.looks.onward) is))
    (c.proof.ensures.reads st lib v e at h)
