use Rattle.std.proofs.Common.{◌≡◌, ◌⊎◌, refl, ap, ◌∙◌, inl, inr}
use Rattle.std.specs.Prelude.{nat_le}
use Rattle.cells.proofs.ReadBack.{held_later}
use Rattle.cells.proofs.Sights.{looks_trans}
use Rattle.cells.specs.Slots.{rank_cell}
use Rattle.cells.specs.Sight.{ReadsWithin}
use Rattle.cells.proofs.Asking.{asks_cell, asks_trans}
use Rattle.std.proofs.lemmas.Result.{err_from_is_err_and}
use Rattle.replacements.proofs.replacing.is_not_lower.Goals as goal

pub returns-in_err-rank-clause-looks : goal.returns-in_err-rank-clause-looks
returns-in_err-rank-clause-looks g c = looks_trans _ _ _ c.rank.ensures.looks c.rank-2.ensures.looks

pub returns-clause-looks : goal.returns-clause-looks
returns-clause-looks g c = looks_trans _ _ _ c.rank.ensures.looks c.rank-2.ensures.looks

pub returns-clause-ok : goal.returns-clause-ok
returns-clause-ok g c = λ st lib v e at held f f_at f_held.
    let s = g.C.Cells.sight c.rank.new.cells in
    let t = g.C.Cells.sight c.rank-2.new.cells in
    let limit : c.in_ok-limit.limit ≡ e.rank =
    held_later s t c.args.citing (λ st lib x. c.in_ok-limit.limit ≡ x.rank) c.rank-2.ensures.looks c.in_ok-limit.ensures.ok st lib v e
    at held in
    let rank : c.in_ok-rank.field-0 ≡ f.rank = c.in_ok-rank.ensures.ok st lib v f f_at f_held in
    ap (λ n. nat_le n c.in_ok-rank.field-0) limit ∙ ap (nat_le e.rank) rank

pub returns-in_err-limit-clause-reads : goal.returns-in_err-limit-clause-reads
returns-in_err-limit-clause-reads g c =
    let first : ReadsWithin (λ k. (k ≡ rank_cell c.args.citing)
    ⊎ (k ≡ rank_cell c.args.cited)) (g.C.Cells.sight c.args.cells.now) (g.C.Cells.sight c.rank.new.cells) =
    asks_cell (inl refl) c.rank.ensures.reads in
    first

pub returns-in_err-rank-clause-reads : goal.returns-in_err-rank-clause-reads
returns-in_err-rank-clause-reads g c =
    let first : ReadsWithin (λ k. (k ≡ rank_cell c.args.citing)
    ⊎ (k ≡ rank_cell c.args.cited)) (g.C.Cells.sight c.args.cells.now) (g.C.Cells.sight c.rank.new.cells) =
    asks_cell (inl refl) c.rank.ensures.reads in
    let next : ReadsWithin (λ k. (k ≡ rank_cell c.args.citing)
    ⊎ (k ≡ rank_cell c.args.cited)) (g.C.Cells.sight c.rank.new.cells) (g.C.Cells.sight c.rank-2.new.cells) =
    asks_cell (inr refl) c.rank-2.ensures.reads in
    asks_trans first next

pub returns-clause-reads : goal.returns-clause-reads
returns-clause-reads g c =
    let first : ReadsWithin (λ k. (k ≡ rank_cell c.args.citing)
    ⊎ (k ≡ rank_cell c.args.cited)) (g.C.Cells.sight c.args.cells.now) (g.C.Cells.sight c.rank.new.cells) =
    asks_cell (inl refl) c.rank.ensures.reads in
    let next : ReadsWithin (λ k. (k ≡ rank_cell c.args.citing)
    ⊎ (k ≡ rank_cell c.args.cited)) (g.C.Cells.sight c.rank.new.cells) (g.C.Cells.sight c.rank-2.new.cells) =
    asks_cell (inr refl) c.rank-2.ensures.reads in
    asks_trans first next

pub returns-in_err-limit-clause-ok : goal.returns-in_err-limit-clause-ok
returns-in_err-limit-clause-ok g c =
    let p = err_from_is_err_and c.from_residual.result c.from_residual.ensures.1 in rw p.1 tt

pub returns-in_err-rank-clause-ok : goal.returns-in_err-rank-clause-ok
returns-in_err-rank-clause-ok g c =
    let p = err_from_is_err_and c.from_residual-in_err-rank.result c.from_residual-in_err-rank.ensures.1 in rw p.1 tt

pub rank-requires : goal.rank-requires
rank-requires g c = c.requires.citing

pub returns-in_err-limit-clause-looks : goal.returns-in_err-limit-clause-looks
returns-in_err-limit-clause-looks g c = c.rank.ensures.looks
