use Rattle.std.proofs.Common.{rules, ◌≡◌, ◌^◌, ◌<◌, ℕ, ap, ◌∙◌}
use Rattle.std.specs.Prelude.{bit_and}
use Rattle.std.proofs.Math.Nat.{mod-eq_of_lt}
use Rattle.std.proofs.lemmas.Nat.{and_mask}
use Rattle.cells.specs.Slots.{rank_cell}
use Rattle.cells.specs.Sight.{Reads}
use Rattle.cells.proofs.Small.{rank_small}
use Rattle.cells.proofs.Asking.{asks_cell}
use Rattle.cells.proofs.Settings.{small_slot}
use Rattle.cells.proofs.reading.entries.rank.Goals as goal

pub rank_cell-requires : goal.rank_cell-requires
rank_cell-requires g c = small_slot _ (g.met.C.Cells.grounded c.args.cells.now) c.args.slot c.requires

pub returns-clause-ok : goal.returns-clause-ok
returns-clause-ok g c = λ st lib v e at h.
    let old = g.C.Cells.sight c.args.cells.now in
    let new = g.C.Cells.sight c.read.new.self in
    let read : Reads (rank_cell c.args.slot) c.in_ok-read.field-0 old new = search rules in
    let is : c.in_ok-read.field-0 ≡ e.rank = read.value st v.matches ∙ h.rank in
    let small : e.rank < 2 ^ 32 = rank_small new.setting lib v.verifies e at in
    ap (λ (n : ℕ). bit_and n 4294967295) is ∙ (and_mask e.rank 32 ∙ mod-eq_of_lt small)

pub returns-in_err-read-clause-reads : goal.returns-in_err-read-clause-reads
returns-in_err-read-clause-reads g c = asks_cell c.rank_cell.ensures c.read.ensures.reads

pub returns-clause-reads : goal.returns-clause-reads
returns-clause-reads g c = asks_cell c.rank_cell.ensures c.read.ensures.reads
