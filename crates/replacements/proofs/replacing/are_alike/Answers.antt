use Rattle.std.proofs.Common.{◌≡◌, ◌⊎◌, refl, ap, ◌∙◌, inl, inr}
use Rattle.mmframes.specs.Frames.{frame}
use Rattle.library.specs.Edits.{is_alike}
use Rattle.cells.proofs.ReadBack.{held_later}
use Rattle.cells.proofs.Sights.{looks_trans}
use Rattle.cells.specs.Slots.{statement_cell}
use Rattle.cells.specs.Sight.{ReadsWithin}
use Rattle.cells.proofs.Asking.{asks_cell, asks_trans}
use Rattle.std.proofs.lemmas.Result.{err_from_is_err_and}
use Rattle.replacements.proofs.replacing.are_alike.Goals as goal

pub returns-in_err-next-clause-looks : goal.returns-in_err-next-clause-looks
returns-in_err-next-clause-looks g c = looks_trans _ _ _ c.frame.ensures.looks c.frame-2.ensures.looks

pub returns-clause-looks : goal.returns-clause-looks
returns-clause-looks g c = looks_trans _ _ _ c.frame.ensures.looks c.frame-2.ensures.looks

pub returns-clause-ok : goal.returns-clause-ok
returns-clause-ok g c = λ st lib v e at held f f_at f_held.
    let s = g.C.Cells.sight c.frame.new.cells in
    let t = g.C.Cells.sight c.frame-2.new.cells in
    let p = c.args.prelude.now in
    let former : c.in_ok-former.former ≡ frame c.args.prelude.now e.assertion =
    held_later s t c.args.old (λ st lib x. c.in_ok-former.former ≡ frame p x.assertion) c.frame-2.ensures.looks
    c.in_ok-former.ensures.ok st lib v e at held in
    let next : c.in_ok-next.next ≡ frame c.args.prelude.now f.assertion = c.in_ok-next.ensures.ok st lib v f f_at f_held in
    c.is_alike.ensures ∙ ap (λ x. is_alike x c.in_ok-next.next) former ∙ ap (is_alike (frame p e.assertion)) next

pub returns-in_err-former-clause-reads : goal.returns-in_err-former-clause-reads
returns-in_err-former-clause-reads g c =
    let first : ReadsWithin (λ k. (k ≡ statement_cell c.args.old)
    ⊎ (k ≡ statement_cell c.args.new)) (g.C.Cells.sight c.args.cells.now) (g.C.Cells.sight c.frame.new.cells) =
    asks_cell (inl refl) c.frame.ensures.reads in
    first

pub returns-in_err-next-clause-reads : goal.returns-in_err-next-clause-reads
returns-in_err-next-clause-reads g c =
    let first : ReadsWithin (λ k. (k ≡ statement_cell c.args.old)
    ⊎ (k ≡ statement_cell c.args.new)) (g.C.Cells.sight c.args.cells.now) (g.C.Cells.sight c.frame.new.cells) =
    asks_cell (inl refl) c.frame.ensures.reads in
    let next : ReadsWithin (λ k. (k ≡ statement_cell c.args.old)
    ⊎ (k ≡ statement_cell c.args.new)) (g.C.Cells.sight c.frame.new.cells) (g.C.Cells.sight c.frame-2.new.cells) =
    asks_cell (inr refl) c.frame-2.ensures.reads in
    asks_trans first next

pub returns-clause-reads : goal.returns-clause-reads
returns-clause-reads g c =
    let first : ReadsWithin (λ k. (k ≡ statement_cell c.args.old)
    ⊎ (k ≡ statement_cell c.args.new)) (g.C.Cells.sight c.args.cells.now) (g.C.Cells.sight c.frame.new.cells) =
    asks_cell (inl refl) c.frame.ensures.reads in
    let next : ReadsWithin (λ k. (k ≡ statement_cell c.args.old)
    ⊎ (k ≡ statement_cell c.args.new)) (g.C.Cells.sight c.frame.new.cells) (g.C.Cells.sight c.frame-2.new.cells) =
    asks_cell (inr refl) c.frame-2.ensures.reads in
    asks_trans first next

pub returns-in_err-former-clause-ok : goal.returns-in_err-former-clause-ok
returns-in_err-former-clause-ok g c =
    let p = err_from_is_err_and c.from_residual.result c.from_residual.ensures.1 in rw p.1 tt

pub returns-in_err-next-clause-ok : goal.returns-in_err-next-clause-ok
returns-in_err-next-clause-ok g c =
    let p = err_from_is_err_and c.from_residual-in_err-next.result c.from_residual-in_err-next.ensures.1 in rw p.1 tt
