use Rattle.std.proofs.Common.{◌≡◌, ◌≤◌, ◌⊎◌, refl, sym, subst, inl, inr, arith}
use Rattle.library.specs.Library.{label_of}
use Rattle.library.specs.Edits.{citers}
use Rattle.cells.specs.Slots.{rank_cell, citers_cell}
use Rattle.cells.specs.Sight.{ReadsWithin}
use Rattle.cells.specs.Lookups.{ForEachHeld}
use Rattle.cells.proofs.ReadBack.{held_later}
use Rattle.cells.proofs.Settings.{same_slots}
use Rattle.cells.proofs.Sights.{looks_trans}
use Rattle.cells.proofs.Asking.{asks_cell, asks_trans}
use Rattle.moves.specs.Citers.{TellsCitesUpTo}
use Rattle.moves.proofs.MoveReads.{rise_within, ranks_more}
use Rattle.moves.proofs.Citers.{all_uncited, low_uncited, count_uncited, more_uncited}
use Rattle.std.proofs.lemmas.Result.{err_from_is_err_and}
use Rattle.moves.proofs.moving.is_cited_up_to.Goals as goal

pub returns-in_err-citers-clause-looks : goal.returns-in_err-citers-clause-looks
returns-in_err-citers-clause-looks g c = looks_trans _ _ _ c.rank.ensures.looks c.citers.ensures.looks

pub returns-then-limit-current-clause-looks : goal.returns-then-limit-current-clause-looks
returns-then-limit-current-clause-looks g c =
    elim c.then-limit-current.branch [
      | goal.then-limit-current-via-then-limit-current w ↦ rw w.cells-is c.rank.ensures.looks
      | goal.then-limit-current-via-else-limit-current+in_ok-citers+then-branch-eq0 w ↦
          rw w.cells-is (looks_trans _ _ _ c.rank.ensures.looks w.citers.ensures.looks)
    ]

pub returns-then-limit-current-clause-ok : goal.returns-then-limit-current-clause-ok
returns-then-limit-current-clause-ok g c =
    let s = g.C.Cells.sight c.rank.new.cells in
    let i = c.args.slot in
    let own : ForEachHeld s i (λ st lib e. c.in_ok-current.current ≡ e.rank) = c.in_ok-current.ensures.ok in
    elim c.then-limit-current.branch [
      | goal.then-limit-current-via-then-limit-current w ↦
          rw w.cells-is (low_uncited s i c.args.limit c.in_ok-current.current own w.if-limit-current.true)
      | goal.then-limit-current-via-else-limit-current+in_ok-citers+then-branch-eq0 w ↦
          let t = g.C.Cells.sight w.citers.new.cells in
          let n = w.in_ok-citers.field-0 in
          let counted : ForEachHeld t i (λ st lib e. n ≡ citers lib (label_of e)) = w.in_ok-citers.ensures.ok in
          rw w.cells-is (count_uncited t i c.args.limit n w.if-branch-eq0.true counted)
    ]

pub cites_up_to-requires-clause-low : goal.cites_up_to-requires-clause-low
cites_up_to-requires-clause-low g c =
    let first = g.C.Cells.sight c.rank.new.cells in
    held_later first (g.C.Cells.sight c.loop-other.cells) c.args.slot (λ st lib e. c.in_ok-current.current ≡ e.rank)
    (looks_trans _ _ _ c.citers.ensures.looks c.loop-other.invariant.looks) c.in_ok-current.ensures.ok

pub returns-in_err-cites_up_to-clause-looks : goal.returns-in_err-cites_up_to-clause-looks
returns-in_err-cites_up_to-clause-looks g c =
    looks_trans _ _ _ c.rank.ensures.looks (looks_trans _ _ _ c.citers.ensures.looks
    (looks_trans _ _ _ c.loop-other.invariant.looks c.cites_up_to.ensures.looks))

pub returns-then-branch-clause-looks : goal.returns-then-branch-clause-looks
returns-then-branch-clause-looks g c =
    looks_trans _ _ _ c.rank.ensures.looks (looks_trans _ _ _ c.citers.ensures.looks
    (looks_trans _ _ _ c.loop-other.invariant.looks c.cites_up_to.ensures.looks))

pub returns-then-branch-clause-ok : goal.returns-then-branch-clause-ok
returns-then-branch-clause-ok g c =
    let new = g.C.Cells.sight c.cites_up_to.new.cells in
    subst (TellsCitesUpTo new c.loop-other.other c.args.slot c.args.limit) c.if-branch.true c.in_ok-cites_up_to.ensures.ok

pub loop-other-preserved : goal.loop-other-preserved
loop-other-preserved g c =
    let old = g.C.Cells.sight c.args.cells.now in
    let second = g.C.Cells.sight c.citers.new.cells in
    let now = g.C.Cells.sight c.loop-other.cells in
    let new = g.C.Cells.sight c.cites_up_to.new.cells in
    let slots = old.setting.slots in
    let i = c.args.slot in
    let limit = c.args.limit in
    let other = c.loop-other.other in
    let looks = c.cites_up_to.ensures.looks in
    let before = looks_trans _ _ _ (looks_trans _ _ _ c.rank.ensures.looks c.citers.ensures.looks) c.loop-other.invariant.looks in
    let told = subst (TellsCitesUpTo new other i limit) c.if-branch.false c.in_ok-cites_up_to.ensures.ok in
    record {
      looks = looks_trans second now new c.loop-other.invariant.looks looks;
      reads = ranks_more slots c.in_ok-current.current limit second now new c.loop-other.invariant.reads c.loop-other.invariant.looks
          looks.onward (same_slots old now before) c.cites_up_to.ensures.reads;
      uncited = more_uncited new i limit now slots other (sym (same_slots old new (looks_trans old now new before looks))) looks
          c.loop-other.invariant.uncited told;
    }

pub returns-clause-looks : goal.returns-clause-looks
returns-clause-looks g c =
    looks_trans _ _ _ c.rank.ensures.looks (looks_trans _ _ _ c.citers.ensures.looks c.loop-other.invariant.looks)

pub returns-clause-ok : goal.returns-clause-ok
returns-clause-ok g c =
    let old = g.C.Cells.sight c.args.cells.now in
    let s = g.C.Cells.sight c.loop-other.cells in
    let looks = looks_trans _ _ _ c.rank.ensures.looks (looks_trans _ _ _ c.citers.ensures.looks c.loop-other.invariant.looks) in
    let end = c.slot_count-other-end.ensures.value in
    let slots = same_slots old _ (looks_trans _ _ _ c.rank.ensures.looks c.citers.ensures.looks) in
    let past : old.setting.slots ≤ c.loop-other.other = omega (arith, end, slots, c.loop-other-test.false) in
    all_uncited s c.args.slot c.args.limit old.setting.slots c.loop-other.other (sym (same_slots old s looks)) past
    c.loop-other.invariant.uncited

pub returns-in_err-current-clause-reads : goal.returns-in_err-current-clause-reads
returns-in_err-current-clause-reads g c =
    λ st lib v e at h. asks_cell (inl refl) c.rank.ensures.reads

pub returns-in_err-citers-clause-reads : goal.returns-in_err-citers-clause-reads
returns-in_err-citers-clause-reads g c =
    λ st lib v e at h.
    asks_trans (asks_cell (inl refl) c.rank.ensures.reads) (asks_cell (inr (inl refl)) c.citers.ensures.reads)

pub returns-then-limit-current-clause-reads : goal.returns-then-limit-current-clause-reads
returns-then-limit-current-clause-reads g c =
    elim c.then-limit-current.branch [
      | goal.then-limit-current-via-then-limit-current w ↦ rw w.cells-is (λ st lib v e at h. asks_cell (inl refl) c.rank.ensures.reads)
      | goal.then-limit-current-via-else-limit-current+in_ok-citers+then-branch-eq0 w ↦
          rw w.cells-is (λ st lib v e at h.
          asks_trans (asks_cell (inl refl) c.rank.ensures.reads) (asks_cell (inr (inl refl)) w.citers.ensures.reads))
    ]

pub returns-in_err-cites_up_to-clause-reads : goal.returns-in_err-cites_up_to-clause-reads
returns-in_err-cites_up_to-clause-reads g c =
    let old = g.C.Cells.sight c.args.cells.now in
    let first = g.C.Cells.sight c.rank.new.cells in
    let second = g.C.Cells.sight c.citers.new.cells in
    let now = g.C.Cells.sight c.loop-other.cells in
    let new = g.C.Cells.sight c.cites_up_to.new.cells in
    let slots = old.setting.slots in
    let i = c.args.slot in
    let limit = c.args.limit in
    let n = c.in_ok-citers.field-0 in
    let current = c.in_ok-current.current in
    let ranked : ForEachHeld second i (λ st lib e. c.in_ok-current.current ≡ e.rank) =
    held_later first second i (λ st lib e. c.in_ok-current.current ≡ e.rank) c.citers.ensures.looks c.in_ok-current.ensures.ok in
    let counted : ForEachHeld second i (λ st lib e. c.in_ok-citers.field-0 ≡ citers lib (label_of e)) = c.in_ok-citers.ensures.ok in
    let own : ReadsWithin (λ k. (k ≡ rank_cell c.args.slot) ⊎ (k ≡ citers_cell c.args.slot)) old second =
    asks_trans (asks_cell (inl refl) c.rank.ensures.reads) (asks_cell (inr refl) c.citers.ensures.reads) in
    let before = looks_trans old first second c.rank.ensures.looks c.citers.ensures.looks in
    let same = same_slots old now (looks_trans old second now before c.loop-other.invariant.looks) in
    rise_within old second new i limit current n before
    (looks_trans second now new c.loop-other.invariant.looks c.cites_up_to.ensures.looks) own ranked counted
    (omega (arith, c.if-limit-current.false)) c.if-branch-eq0.false
    (ranks_more slots current limit second now new c.loop-other.invariant.reads c.loop-other.invariant.looks
    c.cites_up_to.ensures.looks.onward same c.cites_up_to.ensures.reads)

pub returns-then-branch-clause-reads : goal.returns-then-branch-clause-reads
returns-then-branch-clause-reads g c =
    let old = g.C.Cells.sight c.args.cells.now in
    let first = g.C.Cells.sight c.rank.new.cells in
    let second = g.C.Cells.sight c.citers.new.cells in
    let now = g.C.Cells.sight c.loop-other.cells in
    let new = g.C.Cells.sight c.cites_up_to.new.cells in
    let slots = old.setting.slots in
    let i = c.args.slot in
    let limit = c.args.limit in
    let n = c.in_ok-citers.field-0 in
    let current = c.in_ok-current.current in
    let ranked : ForEachHeld second i (λ st lib e. c.in_ok-current.current ≡ e.rank) =
    held_later first second i (λ st lib e. c.in_ok-current.current ≡ e.rank) c.citers.ensures.looks c.in_ok-current.ensures.ok in
    let counted : ForEachHeld second i (λ st lib e. c.in_ok-citers.field-0 ≡ citers lib (label_of e)) = c.in_ok-citers.ensures.ok in
    let own : ReadsWithin (λ k. (k ≡ rank_cell c.args.slot) ⊎ (k ≡ citers_cell c.args.slot)) old second =
    asks_trans (asks_cell (inl refl) c.rank.ensures.reads) (asks_cell (inr refl) c.citers.ensures.reads) in
    let before = looks_trans old first second c.rank.ensures.looks c.citers.ensures.looks in
    let same = same_slots old now (looks_trans old second now before c.loop-other.invariant.looks) in
    rise_within old second new i limit current n before
    (looks_trans second now new c.loop-other.invariant.looks c.cites_up_to.ensures.looks) own ranked counted
    (omega (arith, c.if-limit-current.false)) c.if-branch-eq0.false
    (ranks_more slots current limit second now new c.loop-other.invariant.reads c.loop-other.invariant.looks
    c.cites_up_to.ensures.looks.onward same c.cites_up_to.ensures.reads)

pub returns-clause-reads : goal.returns-clause-reads
returns-clause-reads g c =
    let old = g.C.Cells.sight c.args.cells.now in
    let first = g.C.Cells.sight c.rank.new.cells in
    let second = g.C.Cells.sight c.citers.new.cells in
    let i = c.args.slot in
    let n = c.in_ok-citers.field-0 in
    let current = c.in_ok-current.current in
    let ranked : ForEachHeld second i (λ st lib e. c.in_ok-current.current ≡ e.rank) =
    held_later first second i (λ st lib e. c.in_ok-current.current ≡ e.rank) c.citers.ensures.looks c.in_ok-current.ensures.ok in
    let counted : ForEachHeld second i (λ st lib e. c.in_ok-citers.field-0 ≡ citers lib (label_of e)) = c.in_ok-citers.ensures.ok in
    let own : ReadsWithin (λ k. (k ≡ rank_cell c.args.slot) ⊎ (k ≡ citers_cell c.args.slot)) old second =
    asks_trans (asks_cell (inl refl) c.rank.ensures.reads) (asks_cell (inr refl) c.citers.ensures.reads) in
    rise_within old second (g.C.Cells.sight c.loop-other.cells) i c.args.limit current n
    (looks_trans _ _ _ c.rank.ensures.looks c.citers.ensures.looks)
    (c.loop-other.invariant.looks) own ranked counted (omega (arith, c.if-limit-current.false)) c.if-branch-eq0.false
    (c.loop-other.invariant.reads)

pub returns-in_err-current-clause-ok : goal.returns-in_err-current-clause-ok
returns-in_err-current-clause-ok g c = let p = err_from_is_err_and c.from_residual.result c.from_residual.ensures.1 in rw p.1 tt

pub returns-in_err-citers-clause-ok : goal.returns-in_err-citers-clause-ok
returns-in_err-citers-clause-ok g c =
    let p = err_from_is_err_and c.from_residual-in_err-citers.result c.from_residual-in_err-citers.ensures.1 in rw p.1 tt

pub returns-in_err-cites_up_to-clause-ok : goal.returns-in_err-cites_up_to-clause-ok
returns-in_err-cites_up_to-clause-ok g c =
    let p = err_from_is_err_and c.from_residual-in_err-cites_up_to.result c.from_residual-in_err-cites_up_to.ensures.1 in rw p.1 tt
