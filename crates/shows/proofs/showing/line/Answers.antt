use Rattle.std.proofs.Common.{◌≡◌, refl, inl, inr}
use Rattle.library.specs.Library.{label_of}
use Rattle.library.specs.Edits.{citers}
use Rattle.cells.specs.Sight.{ReadsWithin}
use Rattle.cells.proofs.ReadBack.{held_later}
use Rattle.cells.proofs.Sights.{looks_trans}
use Rattle.cells.proofs.Asking.{asks_cell, asks_trans}
use Rattle.groundwork.specs.Footprints.{IsOfLine}
use Rattle.shows.proofs.showing.line.Goals as goal

pub returns-in_err-kind-clause-looks : goal.returns-in_err-kind-clause-looks
returns-in_err-kind-clause-looks g c = looks_trans _ _ _ c.rank.ensures.looks c.kind.ensures.looks

pub returns-in_err-citers-clause-looks : goal.returns-in_err-citers-clause-looks
returns-in_err-citers-clause-looks g c =
    looks_trans _ _ _ c.rank.ensures.looks (looks_trans _ _ _ c.kind.ensures.looks c.citers.ensures.looks)

pub returns-clause-looks : goal.returns-clause-looks
returns-clause-looks g c = looks_trans _ _ _ c.rank.ensures.looks (looks_trans _ _ _ c.kind.ensures.looks c.citers.ensures.looks)

pub returns-clause-ok : goal.returns-clause-ok
returns-clause-ok g c = λ st lib v e at h.
    let s0 = g.C.Cells.sight c.args.cells.now in
    let s1 = g.C.Cells.sight c.rank.new.cells in
    let s2 = g.C.Cells.sight c.kind.new.cells in
    let s3 = g.C.Cells.sight c.citers.new.cells in
    let i = c.args.slot in
    let on2 = c.citers.ensures.looks in
    let on1 = looks_trans _ _ _ c.kind.ensures.looks on2 in
    let on0 = looks_trans _ _ _ c.rank.ensures.looks on1 in
    let r : c.in_ok-rank.field-0 ≡ e.rank = held_later s1 s3 i (λ x l f. c.in_ok-rank.field-0
    ≡ f.rank) on1 c.in_ok-rank.ensures.ok st lib v e at h in
    let l : c.args.label ≡ label_of e = held_later s0 s3 i (λ x m f. c.args.label ≡ label_of f) on0 c.requires.label st lib v e at h in
    let k : c.in_ok-kind.field-0 ≡ e.assertion.kind =
    held_later s2 s3 i (λ x m f. c.in_ok-kind.field-0 ≡ f.assertion.kind) on2 c.in_ok-kind.ensures.ok st lib v e at h in
    let n : c.in_ok-citers.field-0 ≡ citers lib (label_of e) = c.in_ok-citers.ensures.ok st lib v e at h in
    λ j. record { rank = r j; label = l j; kind = k j; citers = n j }

pub returns-in_err-rank-clause-reads : goal.returns-in_err-rank-clause-reads
returns-in_err-rank-clause-reads g c = asks_cell (inr (inl refl)) c.rank.ensures.reads

pub returns-in_err-kind-clause-reads : goal.returns-in_err-kind-clause-reads
returns-in_err-kind-clause-reads g c =
    let r1 : ReadsWithin (IsOfLine c.args.slot) (g.C.Cells.sight c.args.cells.now) (g.C.Cells.sight c.rank.new.cells) =
    asks_cell (inr (inl refl)) c.rank.ensures.reads in
    asks_trans r1 (asks_cell (inl refl) c.kind.ensures.reads)

pub returns-in_err-citers-clause-reads : goal.returns-in_err-citers-clause-reads
returns-in_err-citers-clause-reads g c =
    let r1 : ReadsWithin (IsOfLine c.args.slot) (g.C.Cells.sight c.args.cells.now) (g.C.Cells.sight c.rank.new.cells) =
    asks_cell (inr (inl refl)) c.rank.ensures.reads in
    let r2 : ReadsWithin (IsOfLine c.args.slot) (g.C.Cells.sight c.rank.new.cells) (g.C.Cells.sight c.kind.new.cells) =
    asks_cell (inl refl) c.kind.ensures.reads in
    asks_trans r1 (asks_trans r2 (asks_cell (inr (inr refl)) c.citers.ensures.reads))

pub returns-clause-reads : goal.returns-clause-reads
returns-clause-reads g c =
    let r1 : ReadsWithin (IsOfLine c.args.slot) (g.C.Cells.sight c.args.cells.now) (g.C.Cells.sight c.rank.new.cells) =
    asks_cell (inr (inl refl)) c.rank.ensures.reads in
    let r2 : ReadsWithin (IsOfLine c.args.slot) (g.C.Cells.sight c.rank.new.cells) (g.C.Cells.sight c.kind.new.cells) =
    asks_cell (inl refl) c.kind.ensures.reads in
    asks_trans r1 (asks_trans r2 (asks_cell (inr (inr refl)) c.citers.ensures.reads))
