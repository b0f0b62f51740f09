-- What is left to show of `entry`.
use Rattle.std.proofs.Common.{◌≡◌, subst, refl, inl, inr}
use Rattle.library.specs.Library.{Setting, label_of}
use Rattle.cells.specs.Sight.{after}
use Rattle.cells.specs.Footprints.{IsOfAssertion}
use Rattle.cells.proofs.Asking.{asks_cell, asks_more}
use Rattle.cells.proofs.Sights.{looks_trans, setting_kept}
use Rattle.cells.proofs.ReadBack.{held_later}
use Rattle.cells.proofs.reading.entries.entry.Goals as goal

pub assertion-requires-clause-label : goal.assertion-requires-clause-label
assertion-requires-clause-label g c =
    held_later _ _ c.args.slot (λ st lib e. c.args.label ≡ label_of e) c.rank.ensures.looks c.requires.label

pub returns-in_err-assertion-clause-looks : goal.returns-in_err-assertion-clause-looks
returns-in_err-assertion-clause-looks g c = looks_trans _ _ _ c.rank.ensures.looks c.assertion.ensures.looks

pub returns-clause-looks : goal.returns-clause-looks
returns-clause-looks g c = looks_trans _ _ _ c.rank.ensures.looks c.assertion.ensures.looks

pub returns-clause-ok : goal.returns-clause-ok
returns-clause-ok g c = λ st lib v e at h.
    let first = g.C.Cells.sight c.rank.new.cells in
    let s = g.C.Cells.sight c.assertion.new.cells in
    let r : c.in_ok-rank.rank ≡ e.rank =
    held_later first s c.args.slot (λ x l f. c.in_ok-rank.rank
    ≡ f.rank) c.assertion.ensures.looks c.in_ok-rank.ensures.ok st lib v e at h in
    let a : c.in_ok-assertion.assertion ≡ e.assertion = c.in_ok-assertion.ensures.ok st lib v e at h in
    λ k. record { rank = r k; assertion = a k }

pub returns-in_err-rank-clause-reads : goal.returns-in_err-rank-clause-reads
returns-in_err-rank-clause-reads g c = λ st lib v e at h. asks_cell (inl refl) c.rank.ensures.reads

pub returns-in_err-assertion-clause-reads : goal.returns-in_err-assertion-clause-reads
returns-in_err-assertion-clause-reads g c = λ st lib v e at h.
    let s = g.C.Cells.sight c.assertion.new.cells in
    asks_more (asks_cell (inl refl) c.rank.ensures.reads)
    (λ k is. inr (subst (λ (x : Setting). IsOfAssertion x.slots c.args.slot e.assertion.proof
    (after s st) k) (setting_kept c.rank.ensures.looks.onward) is))
    (c.assertion.ensures.reads st lib v e at h)

pub returns-clause-reads : goal.returns-clause-reads
returns-clause-reads g c = λ st lib v e at h.
    let s = g.C.Cells.sight c.assertion.new.cells in
    asks_more (asks_cell (inl refl) c.rank.ensures.reads)
    (λ k is. inr (subst (λ (x : Setting). IsOfAssertion x.slots c.args.slot e.assertion.proof
    (after s st) k) (setting_kept c.rank.ensures.looks.onward) is))
    (c.assertion.ensures.reads st lib v e at h)
