use Rattle.std.proofs.Common.{◌≡◌, ℕ, true, false, subst, ap, ◌∙◌, inl, inr, arith}
use Rattle.library.specs.declared.command.Command.TheVariants.{Move}
use Rattle.std.specs.List.{list_any}
use Rattle.library.specs.Edits.{cites_not_below}
use Rattle.library.specs.declared.reason.Reason.TheVariants.{UnknownLabel, BadRank, CitedNotLower, CiterNotHigher}
use Rattle.cells.specs.State.{State, with_value}
use Rattle.library.specs.Library.{Setting}
use Rattle.cells.specs.Slots.{proof_cell}
use Rattle.cells.specs.Sight.{WasWritten, ReadsWithin, after}
use Rattle.cells.specs.Lookups.{ForEachHeld}
use Rattle.cells.proofs.Sights.{onward_trans, looks_trans, setting_kept}
use Rattle.cells.specs.Aside.{KeepsAside}
use Rattle.groundwork.specs.Citing.{TellsNotBelow}
use Rattle.moves.specs.Citers.{TellsCitedUpTo}
use Rattle.groundwork.specs.Footprints.{IsRankOfCited, IsRankOfSteps, IsOfRise}
use Rattle.moves.proofs.MoveReads.{MovesSo, move_looks, move_more, move_now, move_put, ranks_within}
use Rattle.groundwork.proofs.Touching.{keeps_to_since}
use Rattle.moves.proofs.MoveReads.{move_keeps}
use Rattle.groundwork.proofs.CitedRanks.{stored_later}
use Rattle.cells.proofs.Resolving.{finds_after}
use Rattle.groundwork.proofs.OnlyLooks.{stored_since}
use Rattle.moves.proofs.Ranking.{refused_unranked, refused_not_above, refused_not_below, does_move}
use Rattle.groundwork.proofs.Refusing.{of_none, refused, answers_refused, answers_ended, answers_unknown}
use Rattle.cells.proofs.Settings.{small_slot}
use Rattle.std.proofs.lemmas.Result.{err_from_is_err_and}
use Rattle.moves.proofs.moving.move_to.Goals as goal

pub rank_cell-requires : goal.rank_cell-requires
rank_cell-requires g c = small_slot _ (g.met.C.Cells.grounded c.known_slot.new.cells) c.in_ok-slot.slot c.in_ok-slot.ensures.ok.0

pub returns-in_err-slot-clause-answers : goal.returns-in_err-slot-clause-answers
returns-in_err-slot-clause-answers g c =
    let s0 = g.C.Cells.sight c.args.cells.now in
    let s1 = g.C.Cells.sight c.known_slot.new.cells in
    let label = c.args.label.now in
    let x = Move c.args.label.now c.args.rank in
    answers_unknown s0 s1 x label c.from_residual.result c.in_err-slot.field-0.0 c.from_residual.ensures.1 c.in_err-slot.ensures.err
    (λ none. refused s0 s1 x UnknownLabel c.known_slot.ensures.looks (λ st lib v. of_none lib label _ (none st lib v)))

pub returns-then-rank-eq0-clause-answers : goal.returns-then-rank-eq0-clause-answers
returns-then-rank-eq0-clause-answers g c =
    let old = g.C.Cells.sight c.args.cells.now in
    let s = g.C.Cells.sight c.known_slot.new.cells in
    let label = c.args.label.now in
    let some = c.in_ok-slot.ensures.ok in
    answers_refused old s (Move label c.args.rank) BadRank c.into.result c.into.ensures
    (refused_unranked old s c.known_slot.ensures.looks c.in_ok-slot.slot label c.args.rank some c.if-rank-eq0.true)

pub returns-in_err-kept-clause-onward : goal.returns-in_err-kept-clause-onward
returns-in_err-kept-clause-onward g c = let looks =
    looks_trans _ _ _ c.known_slot.ensures.looks c.stored_proof.ensures.looks in looks.onward

pub returns-in_err-cites_not_below-clause-onward : goal.returns-in_err-cites_not_below-clause-onward
returns-in_err-cites_not_below-clause-onward g c =
    let looks = looks_trans _ _ _ c.known_slot.ensures.looks
    (looks_trans _ _ _ c.stored_proof.ensures.looks c.cites_not_below.ensures.looks) in looks.onward

pub returns-then-branch-clause-onward : goal.returns-then-branch-clause-onward
returns-then-branch-clause-onward g c =
    let looks = looks_trans _ _ _ c.known_slot.ensures.looks
    (looks_trans _ _ _ c.stored_proof.ensures.looks c.cites_not_below.ensures.looks) in looks.onward

pub returns-then-branch-clause-answers : goal.returns-then-branch-clause-answers
returns-then-branch-clause-answers g c =
    let old = g.C.Cells.sight c.args.cells.now in
    let first = g.C.Cells.sight c.known_slot.new.cells in
    let second = g.C.Cells.sight c.stored_proof.new.cells in
    let third = g.C.Cells.sight c.cites_not_below.new.cells in
    let label = c.args.label.now in
    let i = c.in_ok-slot.slot in
    let kept = c.in_ok-kept.kept.items in
    let some = c.in_ok-slot.ensures.ok in
    let told : TellsNotBelow third c.args.rank c.in_ok-kept.kept.items c.in_ok-cites_not_below.field-0 =
    subst (λ ks. TellsNotBelow third c.args.rank ks c.in_ok-cites_not_below.field-0) c.as_slice.ensures.value
    c.in_ok-cites_not_below.ensures.ok in
    let on = c.cites_not_below.ensures.looks in
    let since = looks_trans _ _ _ c.stored_proof.ensures.looks on in
    answers_refused old third (Move label c.args.rank) CitedNotLower c.into-then-branch.result c.into-then-branch.ensures
    (refused_not_above old third (looks_trans _ _ _ c.known_slot.ensures.looks since) i label c.args.rank
    (finds_after first third label i since some)
    c.if-rank-eq0.false kept (stored_since second third i kept on c.in_ok-kept.ensures.ok)
    (subst (TellsNotBelow third c.args.rank kept) c.if-branch.true told))

pub returns-in_err-is_cited_up_to-clause-onward : goal.returns-in_err-is_cited_up_to-clause-onward
returns-in_err-is_cited_up_to-clause-onward g c =
    let looks = looks_trans _ _ _ c.known_slot.ensures.looks (looks_trans _ _ _ c.stored_proof.ensures.looks
    (looks_trans _ _ _ c.cites_not_below.ensures.looks c.is_cited_up_to.ensures.looks)) in looks.onward

pub returns-then-branch-2-clause-onward : goal.returns-then-branch-2-clause-onward
returns-then-branch-2-clause-onward g c =
    let looks = looks_trans _ _ _ c.known_slot.ensures.looks (looks_trans _ _ _ c.stored_proof.ensures.looks
    (looks_trans _ _ _ c.cites_not_below.ensures.looks c.is_cited_up_to.ensures.looks)) in looks.onward

pub returns-then-branch-2-clause-answers : goal.returns-then-branch-2-clause-answers
returns-then-branch-2-clause-answers g c =
    let old = g.C.Cells.sight c.args.cells.now in
    let first = g.C.Cells.sight c.known_slot.new.cells in
    let second = g.C.Cells.sight c.stored_proof.new.cells in
    let third = g.C.Cells.sight c.cites_not_below.new.cells in
    let label = c.args.label.now in
    let i = c.in_ok-slot.slot in
    let kept = c.in_ok-kept.kept.items in
    let some = c.in_ok-slot.ensures.ok in
    let told : TellsNotBelow third c.args.rank c.in_ok-kept.kept.items c.in_ok-cites_not_below.field-0 =
    subst (λ ks. TellsNotBelow third c.args.rank ks c.in_ok-cites_not_below.field-0) c.as_slice.ensures.value
    c.in_ok-cites_not_below.ensures.ok in
    let t = g.C.Cells.sight c.is_cited_up_to.new.cells in
    let last = c.is_cited_up_to.ensures.looks in
    let on = looks_trans _ _ _ c.cites_not_below.ensures.looks last in
    let since = looks_trans _ _ _ c.stored_proof.ensures.looks on in
    let high : TellsNotBelow t c.args.rank c.in_ok-kept.kept.items false =
    stored_later third t kept (λ lib steps. false ≡ list_any (cites_not_below lib c.args.rank) steps) last
    (subst (TellsNotBelow third c.args.rank kept) c.if-branch.false told) in
    let low : TellsCitedUpTo t i c.args.rank true =
    subst (TellsCitedUpTo t i c.args.rank) c.if-branch-2.true c.in_ok-is_cited_up_to.ensures.ok in
    answers_refused old t (Move label c.args.rank) CiterNotHigher c.into-then-branch-2.result c.into-then-branch-2.ensures
    (refused_not_below old t (looks_trans _ _ _ c.known_slot.ensures.looks since) i label c.args.rank
    (finds_after first t label i since some)
    c.if-rank-eq0.false kept (stored_since second t i kept on c.in_ok-kept.ensures.ok) high low)

pub returns-in_err-put-clause-onward : goal.returns-in_err-put-clause-onward
returns-in_err-put-clause-onward g c =
    let looks = looks_trans _ _ _ c.known_slot.ensures.looks (looks_trans _ _ _ c.stored_proof.ensures.looks
    (looks_trans _ _ _ c.cites_not_below.ensures.looks c.is_cited_up_to.ensures.looks)) in
    onward_trans _ _ _ looks.onward c.put.ensures.onward

pub returns-clause-onward : goal.returns-clause-onward
returns-clause-onward g c =
    let looks = looks_trans _ _ _ c.known_slot.ensures.looks (looks_trans _ _ _ c.stored_proof.ensures.looks
    (looks_trans _ _ _ c.cites_not_below.ensures.looks c.is_cited_up_to.ensures.looks)) in
    onward_trans _ _ _ looks.onward c.put.ensures.onward

pub returns-clause-answers : goal.returns-clause-answers
returns-clause-answers g c =
    let old = g.C.Cells.sight c.args.cells.now in
    let first = g.C.Cells.sight c.known_slot.new.cells in
    let second = g.C.Cells.sight c.stored_proof.new.cells in
    let third = g.C.Cells.sight c.cites_not_below.new.cells in
    let label = c.args.label.now in
    let i = c.in_ok-slot.slot in
    let kept = c.in_ok-kept.kept.items in
    let some = c.in_ok-slot.ensures.ok in
    let told : TellsNotBelow third c.args.rank c.in_ok-kept.kept.items c.in_ok-cites_not_below.field-0 =
    subst (λ ks. TellsNotBelow third c.args.rank ks c.in_ok-cites_not_below.field-0) c.as_slice.ensures.value
    c.in_ok-cites_not_below.ensures.ok in
    let t = g.C.Cells.sight c.is_cited_up_to.new.cells in
    let last = c.is_cited_up_to.ensures.looks in
    let on = looks_trans _ _ _ c.cites_not_below.ensures.looks last in
    let since = looks_trans _ _ _ c.stored_proof.ensures.looks on in
    let high : TellsNotBelow t c.args.rank c.in_ok-kept.kept.items false =
    stored_later third t kept (λ lib steps. false ≡ list_any (cites_not_below lib c.args.rank) steps) last
    (subst (TellsNotBelow third c.args.rank kept) c.if-branch.false told) in
    let u = g.C.Cells.sight c.put.new.cells in
    let low : TellsCitedUpTo t i c.args.rank false =
    subst (TellsCitedUpTo t i c.args.rank) c.if-branch-2.false c.in_ok-is_cited_up_to.ensures.ok in
    let put : (st : State) → after u st ≡ with_value c.rank_cell.result c.args.rank (after t st) = c.in_ok-put.ensures.ok in
    let written : WasWritten u c.rank_cell.result = c.in_ok-put.ensures.written in
    does_move old t (looks_trans _ _ _ c.known_slot.ensures.looks since) i label c.args.rank (finds_after first t label i since some)
    c.if-rank-eq0.false kept (stored_since second t i kept on c.in_ok-kept.ensures.ok) high u c.put.ensures.onward low
    (λ st. put st ∙ ap (λ (n : ℕ). with_value n c.args.rank (after t st)) c.rank_cell.ensures)
    (subst (WasWritten u) c.rank_cell.ensures written)

pub returns-clause-keeps : goal.returns-clause-keeps
returns-clause-keeps g c =
    let old = g.C.Cells.sight c.args.cells.now in
    let first = g.C.Cells.sight c.known_slot.new.cells in
    let t = g.C.Cells.sight c.is_cited_up_to.new.cells in
    let u = g.C.Cells.sight c.put.new.cells in
    let label = c.args.label.now in
    let i = c.in_ok-slot.slot in
    let some = c.in_ok-slot.ensures.ok in
    let since = looks_trans _ _ _ c.stored_proof.ensures.looks
    (looks_trans _ _ _ c.cites_not_below.ensures.looks c.is_cited_up_to.ensures.looks) in
    keeps_to_since old t u (Move c.args.label.now c.args.rank) (looks_trans _ _ _ c.known_slot.ensures.looks since) c.put.ensures.onward
    (move_keeps t u i label c.args.rank (finds_after first t label i since some).1
    (subst (λ (n : ℕ). KeepsAside (λ k. k ≡ n) t u) c.rank_cell.ensures
    c.in_ok-put.ensures.keeps))

pub returns-in_err-slot-clause-reads : goal.returns-in_err-slot-clause-reads
returns-in_err-slot-clause-reads g c =
    let old = g.C.Cells.sight c.args.cells.now in
    let s1 = g.C.Cells.sight c.known_slot.new.cells in
    let label = c.args.label.now in
    let rank = c.args.rank in
    let l1 = c.known_slot.ensures.looks in
    let m1 : MovesSo c.args.label.now c.args.rank old s1 =
    move_looks old label rank s1 l1 c.known_slot.ensures.reads in
    move_now old label rank s1 l1 m1

pub returns-then-rank-eq0-clause-reads : goal.returns-then-rank-eq0-clause-reads
returns-then-rank-eq0-clause-reads g c =
    let old = g.C.Cells.sight c.args.cells.now in
    let s1 = g.C.Cells.sight c.known_slot.new.cells in
    let label = c.args.label.now in
    let rank = c.args.rank in
    let l1 = c.known_slot.ensures.looks in
    let m1 : MovesSo c.args.label.now c.args.rank old s1 =
    move_looks old label rank s1 l1 c.known_slot.ensures.reads in
    move_now old label rank s1 l1 m1

pub returns-in_err-kept-clause-reads : goal.returns-in_err-kept-clause-reads
returns-in_err-kept-clause-reads g c =
    let old = g.C.Cells.sight c.args.cells.now in
    let s1 = g.C.Cells.sight c.known_slot.new.cells in
    let label = c.args.label.now in
    let rank = c.args.rank in
    let l1 = c.known_slot.ensures.looks in
    let m1 : MovesSo c.args.label.now c.args.rank old s1 =
    move_looks old label rank s1 l1 c.known_slot.ensures.reads in
    let i = c.in_ok-slot.slot in
    let some = c.in_ok-slot.ensures.ok in
    let s2 = g.C.Cells.sight c.stored_proof.new.cells in
    let l2 = looks_trans _ _ _ l1 c.stored_proof.ensures.looks in
    let m2 : MovesSo c.args.label.now c.args.rank old s2 =
    move_more old label rank s1 s2 i (λ st lib e k. k ≡ proof_cell c.in_ok-slot.slot) l1 c.stored_proof.ensures.looks some m1
    (λ st lib v e at h. c.stored_proof.ensures.reads) (λ st lib e k is. inl is) in
    move_now old label rank s2 l2 m2

pub returns-in_err-cites_not_below-clause-reads : goal.returns-in_err-cites_not_below-clause-reads
returns-in_err-cites_not_below-clause-reads g c =
    let old = g.C.Cells.sight c.args.cells.now in
    let s1 = g.C.Cells.sight c.known_slot.new.cells in
    let label = c.args.label.now in
    let rank = c.args.rank in
    let l1 = c.known_slot.ensures.looks in
    let m1 : MovesSo c.args.label.now c.args.rank old s1 =
    move_looks old label rank s1 l1 c.known_slot.ensures.reads in
    let i = c.in_ok-slot.slot in
    let some = c.in_ok-slot.ensures.ok in
    let s2 = g.C.Cells.sight c.stored_proof.new.cells in
    let l2 = looks_trans _ _ _ l1 c.stored_proof.ensures.looks in
    let m2 : MovesSo c.args.label.now c.args.rank old s2 =
    move_more old label rank s1 s2 i (λ st lib e k. k ≡ proof_cell c.in_ok-slot.slot) l1 c.stored_proof.ensures.looks some m1
    (λ st lib v e at h. c.stored_proof.ensures.reads) (λ st lib e k is. inl is) in
    let kept = c.in_ok-kept.kept.items in
    let s3 = g.C.Cells.sight c.cites_not_below.new.cells in
    let l3 = looks_trans _ _ _ l2 c.cites_not_below.ensures.looks in
    let ranks : ReadsWithin (IsRankOfSteps c.in_ok-kept.kept.items) s2 s3 =
    subst (λ ks. ReadsWithin (IsRankOfSteps ks) s2 s3) c.as_slice.ensures.value c.cites_not_below.ensures.reads in
    let m3 : MovesSo c.args.label.now c.args.rank old s3 =
    move_more old label rank s2 s3 i (λ st lib e. IsRankOfCited old.setting.slots st lib e.assertion.proof) l2
    c.cites_not_below.ensures.looks
    (finds_after s1 s2 label i c.stored_proof.ensures.looks some) m2
    (ranks_within old label rank s2 s3 i kept
    (stored_since s2 s3 i kept c.cites_not_below.ensures.looks c.in_ok-kept.ensures.ok) (setting_kept l3.onward) ranks)
    (λ st lib e k is. inr (inl is)) in
    move_now old label rank s3 l3 m3

pub returns-then-branch-clause-reads : goal.returns-then-branch-clause-reads
returns-then-branch-clause-reads g c =
    let old = g.C.Cells.sight c.args.cells.now in
    let s1 = g.C.Cells.sight c.known_slot.new.cells in
    let label = c.args.label.now in
    let rank = c.args.rank in
    let l1 = c.known_slot.ensures.looks in
    let m1 : MovesSo c.args.label.now c.args.rank old s1 =
    move_looks old label rank s1 l1 c.known_slot.ensures.reads in
    let i = c.in_ok-slot.slot in
    let some = c.in_ok-slot.ensures.ok in
    let s2 = g.C.Cells.sight c.stored_proof.new.cells in
    let l2 = looks_trans _ _ _ l1 c.stored_proof.ensures.looks in
    let m2 : MovesSo c.args.label.now c.args.rank old s2 =
    move_more old label rank s1 s2 i (λ st lib e k. k ≡ proof_cell c.in_ok-slot.slot) l1 c.stored_proof.ensures.looks some m1
    (λ st lib v e at h. c.stored_proof.ensures.reads) (λ st lib e k is. inl is) in
    let kept = c.in_ok-kept.kept.items in
    let s3 = g.C.Cells.sight c.cites_not_below.new.cells in
    let l3 = looks_trans _ _ _ l2 c.cites_not_below.ensures.looks in
    let ranks : ReadsWithin (IsRankOfSteps c.in_ok-kept.kept.items) s2 s3 =
    subst (λ ks. ReadsWithin (IsRankOfSteps ks) s2 s3) c.as_slice.ensures.value c.cites_not_below.ensures.reads in
    let m3 : MovesSo c.args.label.now c.args.rank old s3 =
    move_more old label rank s2 s3 i (λ st lib e. IsRankOfCited old.setting.slots st lib e.assertion.proof) l2
    c.cites_not_below.ensures.looks
    (finds_after s1 s2 label i c.stored_proof.ensures.looks some) m2
    (ranks_within old label rank s2 s3 i kept
    (stored_since s2 s3 i kept c.cites_not_below.ensures.looks c.in_ok-kept.ensures.ok) (setting_kept l3.onward) ranks)
    (λ st lib e k is. inr (inl is)) in
    move_now old label rank s3 l3 m3

pub returns-in_err-is_cited_up_to-clause-reads : goal.returns-in_err-is_cited_up_to-clause-reads
returns-in_err-is_cited_up_to-clause-reads g c =
    let old = g.C.Cells.sight c.args.cells.now in
    let s1 = g.C.Cells.sight c.known_slot.new.cells in
    let label = c.args.label.now in
    let rank = c.args.rank in
    let l1 = c.known_slot.ensures.looks in
    let m1 : MovesSo c.args.label.now c.args.rank old s1 =
    move_looks old label rank s1 l1 c.known_slot.ensures.reads in
    let i = c.in_ok-slot.slot in
    let some = c.in_ok-slot.ensures.ok in
    let s2 = g.C.Cells.sight c.stored_proof.new.cells in
    let l2 = looks_trans _ _ _ l1 c.stored_proof.ensures.looks in
    let m2 : MovesSo c.args.label.now c.args.rank old s2 =
    move_more old label rank s1 s2 i (λ st lib e k. k ≡ proof_cell c.in_ok-slot.slot) l1 c.stored_proof.ensures.looks some m1
    (λ st lib v e at h. c.stored_proof.ensures.reads) (λ st lib e k is. inl is) in
    let kept = c.in_ok-kept.kept.items in
    let s3 = g.C.Cells.sight c.cites_not_below.new.cells in
    let l3 = looks_trans _ _ _ l2 c.cites_not_below.ensures.looks in
    let ranks : ReadsWithin (IsRankOfSteps c.in_ok-kept.kept.items) s2 s3 =
    subst (λ ks. ReadsWithin (IsRankOfSteps ks) s2 s3) c.as_slice.ensures.value c.cites_not_below.ensures.reads in
    let m3 : MovesSo c.args.label.now c.args.rank old s3 =
    move_more old label rank s2 s3 i (λ st lib e. IsRankOfCited old.setting.slots st lib e.assertion.proof) l2
    c.cites_not_below.ensures.looks
    (finds_after s1 s2 label i c.stored_proof.ensures.looks some) m2
    (ranks_within old label rank s2 s3 i kept
    (stored_since s2 s3 i kept c.cites_not_below.ensures.looks c.in_ok-kept.ensures.ok) (setting_kept l3.onward) ranks)
    (λ st lib e k is. inr (inl is)) in
    let t = g.C.Cells.sight c.is_cited_up_to.new.cells in
    let l4 = looks_trans _ _ _ l3 c.is_cited_up_to.ensures.looks in
    let since = looks_trans _ _ _ c.stored_proof.ensures.looks c.cites_not_below.ensures.looks in
    let m4 : MovesSo c.args.label.now c.args.rank old t =
    move_more old label rank s3 t i (λ st lib e. IsOfRise old.setting.slots st lib c.in_ok-slot.slot e c.args.rank) l3
    c.is_cited_up_to.ensures.looks
    (finds_after s1 s3 label i since some) m3
    (subst (λ (x : Setting). ForEachHeld t c.in_ok-slot.slot
    (λ st lib e. ReadsWithin (IsOfRise x.slots st lib c.in_ok-slot.slot e c.args.rank) s3 t))
    (setting_kept l3.onward) c.is_cited_up_to.ensures.reads)
    (λ st lib e k is. inr (inr is)) in
    move_now old label rank t l4 m4

pub returns-then-branch-2-clause-reads : goal.returns-then-branch-2-clause-reads
returns-then-branch-2-clause-reads g c =
    let old = g.C.Cells.sight c.args.cells.now in
    let s1 = g.C.Cells.sight c.known_slot.new.cells in
    let label = c.args.label.now in
    let rank = c.args.rank in
    let l1 = c.known_slot.ensures.looks in
    let m1 : MovesSo c.args.label.now c.args.rank old s1 =
    move_looks old label rank s1 l1 c.known_slot.ensures.reads in
    let i = c.in_ok-slot.slot in
    let some = c.in_ok-slot.ensures.ok in
    let s2 = g.C.Cells.sight c.stored_proof.new.cells in
    let l2 = looks_trans _ _ _ l1 c.stored_proof.ensures.looks in
    let m2 : MovesSo c.args.label.now c.args.rank old s2 =
    move_more old label rank s1 s2 i (λ st lib e k. k ≡ proof_cell c.in_ok-slot.slot) l1 c.stored_proof.ensures.looks some m1
    (λ st lib v e at h. c.stored_proof.ensures.reads) (λ st lib e k is. inl is) in
    let kept = c.in_ok-kept.kept.items in
    let s3 = g.C.Cells.sight c.cites_not_below.new.cells in
    let l3 = looks_trans _ _ _ l2 c.cites_not_below.ensures.looks in
    let ranks : ReadsWithin (IsRankOfSteps c.in_ok-kept.kept.items) s2 s3 =
    subst (λ ks. ReadsWithin (IsRankOfSteps ks) s2 s3) c.as_slice.ensures.value c.cites_not_below.ensures.reads in
    let m3 : MovesSo c.args.label.now c.args.rank old s3 =
    move_more old label rank s2 s3 i (λ st lib e. IsRankOfCited old.setting.slots st lib e.assertion.proof) l2
    c.cites_not_below.ensures.looks
    (finds_after s1 s2 label i c.stored_proof.ensures.looks some) m2
    (ranks_within old label rank s2 s3 i kept
    (stored_since s2 s3 i kept c.cites_not_below.ensures.looks c.in_ok-kept.ensures.ok) (setting_kept l3.onward) ranks)
    (λ st lib e k is. inr (inl is)) in
    let t = g.C.Cells.sight c.is_cited_up_to.new.cells in
    let l4 = looks_trans _ _ _ l3 c.is_cited_up_to.ensures.looks in
    let since = looks_trans _ _ _ c.stored_proof.ensures.looks c.cites_not_below.ensures.looks in
    let m4 : MovesSo c.args.label.now c.args.rank old t =
    move_more old label rank s3 t i (λ st lib e. IsOfRise old.setting.slots st lib c.in_ok-slot.slot e c.args.rank) l3
    c.is_cited_up_to.ensures.looks
    (finds_after s1 s3 label i since some) m3
    (subst (λ (x : Setting). ForEachHeld t c.in_ok-slot.slot
    (λ st lib e. ReadsWithin (IsOfRise x.slots st lib c.in_ok-slot.slot e c.args.rank) s3 t))
    (setting_kept l3.onward) c.is_cited_up_to.ensures.reads)
    (λ st lib e k is. inr (inr is)) in
    move_now old label rank t l4 m4

pub returns-in_err-put-clause-reads : goal.returns-in_err-put-clause-reads
returns-in_err-put-clause-reads g c =
    let old = g.C.Cells.sight c.args.cells.now in
    let s1 = g.C.Cells.sight c.known_slot.new.cells in
    let label = c.args.label.now in
    let rank = c.args.rank in
    let l1 = c.known_slot.ensures.looks in
    let m1 : MovesSo c.args.label.now c.args.rank old s1 =
    move_looks old label rank s1 l1 c.known_slot.ensures.reads in
    let i = c.in_ok-slot.slot in
    let some = c.in_ok-slot.ensures.ok in
    let s2 = g.C.Cells.sight c.stored_proof.new.cells in
    let l2 = looks_trans _ _ _ l1 c.stored_proof.ensures.looks in
    let m2 : MovesSo c.args.label.now c.args.rank old s2 =
    move_more old label rank s1 s2 i (λ st lib e k. k ≡ proof_cell c.in_ok-slot.slot) l1 c.stored_proof.ensures.looks some m1
    (λ st lib v e at h. c.stored_proof.ensures.reads) (λ st lib e k is. inl is) in
    let kept = c.in_ok-kept.kept.items in
    let s3 = g.C.Cells.sight c.cites_not_below.new.cells in
    let l3 = looks_trans _ _ _ l2 c.cites_not_below.ensures.looks in
    let ranks : ReadsWithin (IsRankOfSteps c.in_ok-kept.kept.items) s2 s3 =
    subst (λ ks. ReadsWithin (IsRankOfSteps ks) s2 s3) c.as_slice.ensures.value c.cites_not_below.ensures.reads in
    let m3 : MovesSo c.args.label.now c.args.rank old s3 =
    move_more old label rank s2 s3 i (λ st lib e. IsRankOfCited old.setting.slots st lib e.assertion.proof) l2
    c.cites_not_below.ensures.looks
    (finds_after s1 s2 label i c.stored_proof.ensures.looks some) m2
    (ranks_within old label rank s2 s3 i kept
    (stored_since s2 s3 i kept c.cites_not_below.ensures.looks c.in_ok-kept.ensures.ok) (setting_kept l3.onward) ranks)
    (λ st lib e k is. inr (inl is)) in
    let t = g.C.Cells.sight c.is_cited_up_to.new.cells in
    let l4 = looks_trans _ _ _ l3 c.is_cited_up_to.ensures.looks in
    let since = looks_trans _ _ _ c.stored_proof.ensures.looks c.cites_not_below.ensures.looks in
    let m4 : MovesSo c.args.label.now c.args.rank old t =
    move_more old label rank s3 t i (λ st lib e. IsOfRise old.setting.slots st lib c.in_ok-slot.slot e c.args.rank) l3
    c.is_cited_up_to.ensures.looks
    (finds_after s1 s3 label i since some) m3
    (subst (λ (x : Setting). ForEachHeld t c.in_ok-slot.slot
    (λ st lib e. ReadsWithin (IsOfRise x.slots st lib c.in_ok-slot.slot e c.args.rank) s3 t))
    (setting_kept l3.onward) c.is_cited_up_to.ensures.reads)
    (λ st lib e k is. inr (inr is)) in
    move_put old label rank t (g.C.Cells.sight c.put.new.cells) i l4 c.put.ensures.onward
    (finds_after s1 t label i (looks_trans _ _ _ since c.is_cited_up_to.ensures.looks) some) m4
    (subst (λ (n : ℕ). ReadsWithin (λ k. k ≡ n) t (g.C.Cells.sight c.put.new.cells)) c.rank_cell.ensures c.put.ensures.reads)

pub returns-clause-reads : goal.returns-clause-reads
returns-clause-reads g c =
    let old = g.C.Cells.sight c.args.cells.now in
    let s1 = g.C.Cells.sight c.known_slot.new.cells in
    let label = c.args.label.now in
    let rank = c.args.rank in
    let l1 = c.known_slot.ensures.looks in
    let m1 : MovesSo c.args.label.now c.args.rank old s1 =
    move_looks old label rank s1 l1 c.known_slot.ensures.reads in
    let i = c.in_ok-slot.slot in
    let some = c.in_ok-slot.ensures.ok in
    let s2 = g.C.Cells.sight c.stored_proof.new.cells in
    let l2 = looks_trans _ _ _ l1 c.stored_proof.ensures.looks in
    let m2 : MovesSo c.args.label.now c.args.rank old s2 =
    move_more old label rank s1 s2 i (λ st lib e k. k ≡ proof_cell c.in_ok-slot.slot) l1 c.stored_proof.ensures.looks some m1
    (λ st lib v e at h. c.stored_proof.ensures.reads) (λ st lib e k is. inl is) in
    let kept = c.in_ok-kept.kept.items in
    let s3 = g.C.Cells.sight c.cites_not_below.new.cells in
    let l3 = looks_trans _ _ _ l2 c.cites_not_below.ensures.looks in
    let ranks : ReadsWithin (IsRankOfSteps c.in_ok-kept.kept.items) s2 s3 =
    subst (λ ks. ReadsWithin (IsRankOfSteps ks) s2 s3) c.as_slice.ensures.value c.cites_not_below.ensures.reads in
    let m3 : MovesSo c.args.label.now c.args.rank old s3 =
    move_more old label rank s2 s3 i (λ st lib e. IsRankOfCited old.setting.slots st lib e.assertion.proof) l2
    c.cites_not_below.ensures.looks
    (finds_after s1 s2 label i c.stored_proof.ensures.looks some) m2
    (ranks_within old label rank s2 s3 i kept
    (stored_since s2 s3 i kept c.cites_not_below.ensures.looks c.in_ok-kept.ensures.ok) (setting_kept l3.onward) ranks)
    (λ st lib e k is. inr (inl is)) in
    let t = g.C.Cells.sight c.is_cited_up_to.new.cells in
    let l4 = looks_trans _ _ _ l3 c.is_cited_up_to.ensures.looks in
    let since = looks_trans _ _ _ c.stored_proof.ensures.looks c.cites_not_below.ensures.looks in
    let m4 : MovesSo c.args.label.now c.args.rank old t =
    move_more old label rank s3 t i (λ st lib e. IsOfRise old.setting.slots st lib c.in_ok-slot.slot e c.args.rank) l3
    c.is_cited_up_to.ensures.looks
    (finds_after s1 s3 label i since some) m3
    (subst (λ (x : Setting). ForEachHeld t c.in_ok-slot.slot
    (λ st lib e. ReadsWithin (IsOfRise x.slots st lib c.in_ok-slot.slot e c.args.rank) s3 t))
    (setting_kept l3.onward) c.is_cited_up_to.ensures.reads)
    (λ st lib e k is. inr (inr is)) in
    move_put old label rank t (g.C.Cells.sight c.put.new.cells) i l4 c.put.ensures.onward
    (finds_after s1 t label i (looks_trans _ _ _ since c.is_cited_up_to.ensures.looks) some) m4
    (subst (λ (n : ℕ). ReadsWithin (λ k. k ≡ n) t (g.C.Cells.sight c.put.new.cells)) c.rank_cell.ensures c.put.ensures.reads)

pub returns-in_err-slot-clause-keeps : goal.returns-in_err-slot-clause-keeps
returns-in_err-slot-clause-keeps g c = let p = err_from_is_err_and c.from_residual.result c.from_residual.ensures.1 in rw p.1 tt

pub returns-in_err-kept-clause-keeps : goal.returns-in_err-kept-clause-keeps
returns-in_err-kept-clause-keeps g c =
    let p = err_from_is_err_and c.from_residual-in_err-kept.result c.from_residual-in_err-kept.ensures.1 in rw p.1 tt

pub returns-in_err-cites_not_below-clause-keeps : goal.returns-in_err-cites_not_below-clause-keeps
returns-in_err-cites_not_below-clause-keeps g c =
    let p = err_from_is_err_and c.from_residual-in_err-cites_not_below.result c.from_residual-in_err-cites_not_below.ensures.1 in rw p.1 tt

pub returns-in_err-is_cited_up_to-clause-keeps : goal.returns-in_err-is_cited_up_to-clause-keeps
returns-in_err-is_cited_up_to-clause-keeps g c =
    let p = err_from_is_err_and c.from_residual-in_err-is_cited_up_to.result c.from_residual-in_err-is_cited_up_to.ensures.1 in rw p.1 tt

pub returns-in_err-put-clause-keeps : goal.returns-in_err-put-clause-keeps
returns-in_err-put-clause-keeps g c =
    let p = err_from_is_err_and c.from_residual-in_err-put.result c.from_residual-in_err-put.ensures.1 in rw p.1 tt

pub returns-then-rank-eq0-clause-keeps : goal.returns-then-rank-eq0-clause-keeps
returns-then-rank-eq0-clause-keeps g c = tt

pub returns-then-branch-clause-keeps : goal.returns-then-branch-clause-keeps
returns-then-branch-clause-keeps g c = tt

pub returns-then-branch-2-clause-keeps : goal.returns-then-branch-2-clause-keeps
returns-then-branch-2-clause-keeps g c = tt

pub returns-in_err-slot-clause-taken : goal.returns-in_err-slot-clause-taken
returns-in_err-slot-clause-taken g c st lib m v = omega (arith, c.known_slot.ensures.looks.taken)

pub returns-then-rank-eq0-clause-taken : goal.returns-then-rank-eq0-clause-taken
returns-then-rank-eq0-clause-taken g c st lib m v = omega (arith, c.known_slot.ensures.looks.taken)

pub returns-in_err-kept-clause-taken : goal.returns-in_err-kept-clause-taken
returns-in_err-kept-clause-taken g c st lib m v = omega (arith, c.known_slot.ensures.looks.taken, c.stored_proof.ensures.looks.taken)

pub returns-in_err-cites_not_below-clause-taken : goal.returns-in_err-cites_not_below-clause-taken
returns-in_err-cites_not_below-clause-taken g c st lib m v =
    omega (arith, c.known_slot.ensures.looks.taken, c.stored_proof.ensures.looks.taken, c.cites_not_below.ensures.looks.taken)

pub returns-then-branch-clause-taken : goal.returns-then-branch-clause-taken
returns-then-branch-clause-taken g c st lib m v =
    omega (arith, c.known_slot.ensures.looks.taken, c.stored_proof.ensures.looks.taken, c.cites_not_below.ensures.looks.taken)

pub returns-in_err-is_cited_up_to-clause-taken : goal.returns-in_err-is_cited_up_to-clause-taken
returns-in_err-is_cited_up_to-clause-taken g c st lib m v =
    omega (
      arith,
      c.known_slot.ensures.looks.taken,
      c.stored_proof.ensures.looks.taken,
      c.cites_not_below.ensures.looks.taken,
      c.is_cited_up_to.ensures.looks.taken,
    )

pub returns-then-branch-2-clause-taken : goal.returns-then-branch-2-clause-taken
returns-then-branch-2-clause-taken g c st lib m v =
    omega (
      arith,
      c.known_slot.ensures.looks.taken,
      c.stored_proof.ensures.looks.taken,
      c.cites_not_below.ensures.looks.taken,
      c.is_cited_up_to.ensures.looks.taken,
    )

pub returns-in_err-put-clause-taken : goal.returns-in_err-put-clause-taken
returns-in_err-put-clause-taken g c st lib m v =
    omega (
      arith,
      c.known_slot.ensures.looks.taken,
      c.stored_proof.ensures.looks.taken,
      c.cites_not_below.ensures.looks.taken,
      c.is_cited_up_to.ensures.looks.taken,
      c.put.ensures.taken,
    )

pub returns-clause-taken : goal.returns-clause-taken
returns-clause-taken g c st lib m v =
    omega (
      arith,
      c.known_slot.ensures.looks.taken,
      c.stored_proof.ensures.looks.taken,
      c.cites_not_below.ensures.looks.taken,
      c.is_cited_up_to.ensures.looks.taken,
      c.put.ensures.taken,
    )

pub returns-in_err-kept-clause-answers : goal.returns-in_err-kept-clause-answers
returns-in_err-kept-clause-answers g c =
    answers_ended (g.C.Cells.sight c.args.cells.now) (g.C.Cells.sight c.stored_proof.new.cells)
    (Move c.args.label.now c.args.rank) c.from_residual-in_err-kept.result _ c.from_residual-in_err-kept.ensures.1
    c.in_err-kept.ensures.halts

pub returns-in_err-cites_not_below-clause-answers : goal.returns-in_err-cites_not_below-clause-answers
returns-in_err-cites_not_below-clause-answers g c =
    answers_ended (g.C.Cells.sight c.args.cells.now) (g.C.Cells.sight c.cites_not_below.new.cells)
    (Move c.args.label.now c.args.rank) c.from_residual-in_err-cites_not_below.result _ c.from_residual-in_err-cites_not_below.ensures.1
    c.in_err-cites_not_below.ensures.halts

pub returns-in_err-is_cited_up_to-clause-answers : goal.returns-in_err-is_cited_up_to-clause-answers
returns-in_err-is_cited_up_to-clause-answers g c =
    answers_ended (g.C.Cells.sight c.args.cells.now) (g.C.Cells.sight c.is_cited_up_to.new.cells)
    (Move c.args.label.now c.args.rank) c.from_residual-in_err-is_cited_up_to.result _ c.from_residual-in_err-is_cited_up_to.ensures.1
    c.in_err-is_cited_up_to.ensures.halts

pub returns-in_err-put-clause-answers : goal.returns-in_err-put-clause-answers
returns-in_err-put-clause-answers g c =
    answers_ended (g.C.Cells.sight c.args.cells.now) (g.C.Cells.sight c.put.new.cells)
    (Move c.args.label.now c.args.rank) c.from_residual-in_err-put.result _ c.from_residual-in_err-put.ensures.1
    c.in_err-put.ensures.halts

pub returns-in_err-slot-clause-onward : goal.returns-in_err-slot-clause-onward
returns-in_err-slot-clause-onward g c = c.known_slot.ensures.looks.onward

pub returns-then-rank-eq0-clause-onward : goal.returns-then-rank-eq0-clause-onward
returns-then-rank-eq0-clause-onward g c = c.known_slot.ensures.looks.onward
