use Rattle.std.proofs.Common.{◌≡◌, List, rules, subst, ap, ◌∙◌, arith}
use Rattle.std.specs.Prelude.{◌↔◌, IsTrue, Contains}
use Rattle.bodystore.specs.declared.stored.StoredStep.{StoredStep}
use Rattle.bodystore.specs.declared.stored.StoredStep.TheVariants.{Slot}
use Rattle.cells.specs.State.{State}
use Rattle.cells.specs.Sight.{Matches, after}
use Rattle.cells.proofs.Along.{where_same}
use Rattle.cells.proofs.Bodies.{value_later}
use Rattle.cells.proofs.ReadBack.{held_later}
use Rattle.cells.proofs.Settings.{few_slots, small_slot, same_slots}
use Rattle.cells.proofs.Sights.{looks_trans}
use Rattle.moves.proofs.Citers.{cites_told, cites_within, one_low, one_high}
use Rattle.moves.proofs.MoveReads.{rank_read, proof_read}
use Rattle.std.proofs.lemmas.Result.{err_from_is_err_and}
use Rattle.moves.proofs.moving.cites_up_to.Goals as goal

pub rank_cell-requires : goal.rank_cell-requires
rank_cell-requires g c = small_slot _ (g.met.C.Cells.grounded c.args.cells.now) c.args.citing c.requires.citing

pub returns-in_err-rank-clause-reads : goal.returns-in_err-rank-clause-reads
returns-in_err-rank-clause-reads g c =
    let s0 = g.C.Cells.sight c.args.cells.now in
    rank_read s0.setting.slots c.args.low c.args.high c.args.citing s0 s0 (g.C.Cells.sight c.read.new.self) (where_same s0)
    c.in_err-rank.ensures.err.onward c.requires.citing c.rank_cell.ensures c.read.ensures.reads

pub returns-then-rank-low-clause-ok : goal.returns-then-rank-low-clause-ok
returns-then-rank-low-clause-ok g c =
    let s0 = g.C.Cells.sight c.args.cells.now in
    let s1 = g.C.Cells.sight c.read.new.self in
    let low = c.args.low in
    let read = c.in_ok-rank.ensures.ok in
    let own = held_later s0 s1 c.args.cited (λ st lib e. low ≡ e.rank) read.looks c.requires.low in
    let value = λ (st : State) (m : Matches s1 st). read.value st m ∙ ap (λ n. (after s1 st).value n) c.rank_cell.ensures in
    elim c.then-rank-low.branch [
      | goal.then-rank-low-via-then-rank-low w ↦
          one_low s1 c.args.cited c.args.high c.args.citing c.in_ok-rank.rank value low own w.if-rank-low.true
      | goal.then-rank-low-via-else-rank-low+then-rank-high w ↦
          one_high s1 c.args.cited c.args.high c.args.citing c.in_ok-rank.rank value w.if-rank-high.true
    ]

pub returns-then-rank-low-clause-reads : goal.returns-then-rank-low-clause-reads
returns-then-rank-low-clause-reads g c =
    let s0 = g.C.Cells.sight c.args.cells.now in
    rank_read s0.setting.slots c.args.low c.args.high c.args.citing s0 s0 (g.C.Cells.sight c.read.new.self) (where_same s0)
    c.in_ok-rank.ensures.ok.looks.onward c.requires.citing c.rank_cell.ensures c.read.ensures.reads

pub returns-in_err-kept-clause-looks : goal.returns-in_err-kept-clause-looks
returns-in_err-kept-clause-looks g c = looks_trans _ _ _ c.in_ok-rank.ensures.ok.looks c.stored_proof.ensures.looks

pub returns-in_err-kept-clause-reads : goal.returns-in_err-kept-clause-reads
returns-in_err-kept-clause-reads g c =
    let s0 = g.C.Cells.sight c.args.cells.now in
    let s1 = g.C.Cells.sight c.read.new.self in
    let s2 = g.C.Cells.sight c.stored_proof.new.cells in
    let slots = s0.setting.slots in
    let low = c.args.low in
    let high = c.args.high in
    let j = c.args.citing in
    let read = c.in_ok-rank.ensures.ok in
    let value = λ (st : State) (m : Matches s1 st). read.value st m ∙ ap (λ n. (after s1 st).value n) c.rank_cell.ensures in
    proof_read slots low high j c.in_ok-rank.rank s0 s1 s2
    (rank_read slots low high j s0 s0 s1 (where_same s0) read.looks.onward c.requires.citing c.rank_cell.ensures c.read.ensures.reads)
    read.looks c.stored_proof.ensures.looks.onward c.requires.citing value (omega (arith, c.if-rank-low.false))
    (omega (arith, c.if-rank-high.false)) c.stored_proof.ensures.reads

pub overflow_cast-cited : goal.overflow_cast-cited
overflow_cast-cited g c =
    let few = few_slots (g.C.Cells.sight c.args.cells.now) (g.met.C.Cells.grounded c.args.cells.now) in
    let within = c.requires.cited in
    omega (arith, few, within)

pub returns-clause-looks : goal.returns-clause-looks
returns-clause-looks g c = looks_trans _ _ _ c.in_ok-rank.ensures.ok.looks c.stored_proof.ensures.looks

pub returns-clause-ok : goal.returns-clause-ok
returns-clause-ok g c =
    let s0 = g.C.Cells.sight c.args.cells.now in
    let s1 = g.C.Cells.sight c.read.new.self in
    let s2 = g.C.Cells.sight c.stored_proof.new.cells in
    let read = c.in_ok-rank.ensures.ok in
    let value = λ (st : State) (m : Matches s2 st).
    value_later s0 s1 s2 c.rank_cell.result c.in_ok-rank.rank st read c.stored_proof.ensures.looks m
    ∙ ap (λ n. (after s2 st).value n) c.rank_cell.ensures in
    let same = same_slots s0 s2 (looks_trans s0 s1 s2 read.looks c.stored_proof.ensures.looks) in
    let iff : IsTrue c.contains.result ↔ Contains c.deref.result.now (Slot c.args.cited) = search rules in
    cites_within s2 c.args.cited c.args.high c.args.citing c.in_ok-rank.rank value (omega (arith, c.if-rank-low.false))
    (omega (arith, c.if-rank-high.false)) (omega (arith, same, c.requires.citing)) c.contains.result
    (cites_told s2 c.args.citing c.args.cited c.in_ok-kept.kept.items c.contains.result c.in_ok-kept.ensures.ok
    (subst (λ (ks : List StoredStep). IsTrue c.contains.result ↔ Contains ks (Slot c.args.cited)) c.deref.ensures.value iff))

pub returns-clause-reads : goal.returns-clause-reads
returns-clause-reads g c =
    let s0 = g.C.Cells.sight c.args.cells.now in
    let s1 = g.C.Cells.sight c.read.new.self in
    let s2 = g.C.Cells.sight c.stored_proof.new.cells in
    let slots = s0.setting.slots in
    let low = c.args.low in
    let high = c.args.high in
    let j = c.args.citing in
    let read = c.in_ok-rank.ensures.ok in
    let value = λ (st : State) (m : Matches s1 st). read.value st m ∙ ap (λ n. (after s1 st).value n) c.rank_cell.ensures in
    proof_read slots low high j c.in_ok-rank.rank s0 s1 s2
    (rank_read slots low high j s0 s0 s1 (where_same s0) read.looks.onward c.requires.citing c.rank_cell.ensures c.read.ensures.reads)
    read.looks c.stored_proof.ensures.looks.onward c.requires.citing value (omega (arith, c.if-rank-low.false))
    (omega (arith, c.if-rank-high.false)) c.stored_proof.ensures.reads

pub returns-in_err-rank-clause-ok : goal.returns-in_err-rank-clause-ok
returns-in_err-rank-clause-ok g c = let p = err_from_is_err_and c.from_residual.result c.from_residual.ensures.1 in rw p.1 tt

pub returns-in_err-kept-clause-ok : goal.returns-in_err-kept-clause-ok
returns-in_err-kept-clause-ok g c =
    let p = err_from_is_err_and c.from_residual-in_err-kept.result c.from_residual-in_err-kept.ensures.1 in rw p.1 tt
