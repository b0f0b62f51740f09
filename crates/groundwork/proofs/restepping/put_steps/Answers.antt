use Rattle.std.proofs.Common.{◌≡◌, ◌≢◌, ◌<◌, List, ℕ, length, sym, ap, subst, ◌∙◌, arith}
use Rattle.library.specs.Library.{Setting}
use Rattle.bodystore.specs.declared.stored.StoredStep.{StoredStep}
use Rattle.cells.specs.State.{State, HasBody}
use Rattle.cells.specs.Slots.{proof_cell, cell_count}
use Rattle.cells.specs.Sight.{Matches, ReadsWithin, after}
use Rattle.cells.specs.Aside.{KeepsAside, IsCitersOf}
use Rattle.cells.specs.Answers.{WritesSome}
use Rattle.cells.proofs.Sights.{onward_trans, setting_kept, may_write_kept, may_stage_kept}
use Rattle.cells.proofs.Settings.{small_slot, same_slots}
use Rattle.ranges.specs.Ranges.{Has}
use Rattle.ranges.proofs.Members.{all_from_has}
use Rattle.std.proofs.lemmas.Result.{MatchResult-weaker}
use Rattle.groundwork.specs.Changes.{AreExchanged, ReprovesAt}
use Rattle.groundwork.specs.Touches.{ReprovesWithin}
use Rattle.groundwork.proofs.Touching.{resteps_within}
use Rattle.groundwork.proofs.Restepped.{CountsOutOf, CountsInOf, restepped}
use Rattle.groundwork.proofs.RestepReads.{resteps_end, resteps_proof, resteps_put, resteps_out, resteps_in}
use Rattle.std.proofs.lemmas.Result.{IfOk-from_err}
use Rattle.groundwork.proofs.restepping.put_steps.Goals as goal

pub proof_cell-requires : goal.proof_cell-requires
proof_cell-requires g c = small_slot _ (g.met.C.Cells.grounded c.args.cells.now) c.args.slot c.requires.slot

pub returns-in_err-put_body-clause-onward : goal.returns-in_err-put_body-clause-onward
returns-in_err-put_body-clause-onward g c = onward_trans _ _ _ c.stored_proof.ensures.looks.onward c.put_body.ensures.onward

pub returns-in_err-count_out-clause-onward : goal.returns-in_err-count_out-clause-onward
returns-in_err-count_out-clause-onward g c =
    onward_trans _ _ _ c.stored_proof.ensures.looks.onward (onward_trans _ _ _ c.put_body.ensures.onward c.count_out.ensures.onward)

pub count_in-requires-clause-slots : goal.count_in-requires-clause-slots
count_in-requires-clause-slots g c =
    let setting = (setting_kept c.count_out.ensures.onward)
    ∙ ((setting_kept c.put_body.ensures.onward) ∙ (setting_kept c.stored_proof.ensures.looks.onward)) in
    let exchange = c.in_ok-cited.ensures in
    let gained = c.as_slice-4.ensures.value in
    all_from_has (λ i. i < (g.C.Cells.sight c.count_out.new.cells).setting.slots) c.as_slice-4.result.now (λ i h.
    subst (λ (s : Setting). i < s.slots) (sym setting)
    (c.requires.within i (exchange.cited_now.cited i (exchange.gains.from i (subst (Has i) gained h)).0)))

pub returns-clause-onward : goal.returns-clause-onward
returns-clause-onward g c =
    onward_trans _ _ _ c.stored_proof.ensures.looks.onward (onward_trans _ _ _ c.put_body.ensures.onward
    (onward_trans _ _ _ c.count_out.ensures.onward c.count_in.ensures.onward))

pub returns-clause-written : goal.returns-clause-written
returns-clause-written g c =
    let written = c.in_ok-put_body.ensures.written in
    MatchResult-weaker c.count_in.result {P' = λ _. WritesSome (g.C.Cells.sight c.count_in.new.cells)} c.count_in.ensures.ok (λ _ _.
    (c.proof_cell.result, c.count_in.ensures.onward.written _ (c.count_out.ensures.onward.written _ written))) (λ _ t. t)

pub returns-clause-ok : goal.returns-clause-ok
returns-clause-ok g c =
    let s0 = g.C.Cells.sight c.args.cells.now in
    let s1 = g.C.Cells.sight c.stored_proof.new.cells in
    let s2 = g.C.Cells.sight c.put_body.new.cells in
    let s3 = g.C.Cells.sight c.count_out.new.cells in
    let s4 = g.C.Cells.sight c.count_in.new.cells in
    let i = c.args.slot in
    let former = c.in_ok-former.former.items in
    let kept = c.args.kept.now in
    let words = c.in_ok-body.body.items in
    let cell : c.proof_cell.result ≡ proof_cell c.args.slot = c.proof_cell.ensures in
    let dropped = c.in_ok-cited.cited.dropped.items in
    let gained = c.in_ok-cited.cited.gained.items in
    let exchange = subst (λ (steps : List StoredStep). AreExchanged steps kept dropped gained) c.as_slice.ensures.value
    c.in_ok-cited.ensures in
    let named = subst (λ (w : List ℕ). (st : State) → Matches s2 st → HasBody (after s2 st) (proof_cell i) w) c.as_slice-2.ensures.value
    (subst (λ (n : ℕ). (st : State) → Matches s2 st → HasBody (after s2 st) n c.as_slice-2.result.now) cell c.in_ok-put_body.ensures.ok) in
    let others = subst (λ (n : ℕ). (st : State) (k : ℕ) → k ≢ n → (after s2 st).value k ≡ (after s1 st).value k) cell
    c.in_ok-put_body.ensures.others in
    let counts = subst (CountsOutOf s2 s3) c.as_slice-3.ensures.value c.in_ok-count_out.ensures.ok in
    MatchResult-weaker c.count_in.result {P' = λ _. (label : List ℕ) → ReprovesAt s0 s4 i label kept} c.count_in.ensures.ok
    (λ _ adds label. restepped s0 s1 s2 s3 s4 i label former kept dropped gained words c.stored_proof.ensures.looks
    c.put_body.ensures.onward c.count_out.ensures.onward c.count_in.ensures.onward c.in_ok-former.ensures.ok exchange
    c.in_ok-body.ensures named others counts (subst (CountsInOf s3 s4) c.as_slice-4.ensures.value adds)) (λ _ t. t)

pub returns-clause-keeps : goal.returns-clause-keeps
returns-clause-keeps g c =
    let s0 = g.C.Cells.sight c.args.cells.now in
    let s1 = g.C.Cells.sight c.stored_proof.new.cells in
    let s2 = g.C.Cells.sight c.put_body.new.cells in
    let s3 = g.C.Cells.sight c.count_out.new.cells in
    let s4 = g.C.Cells.sight c.count_in.new.cells in
    let i = c.args.slot in
    let former = c.in_ok-former.former.items in
    let kept = c.args.kept.now in
    let dropped = c.in_ok-cited.cited.dropped.items in
    let gained = c.in_ok-cited.cited.gained.items in
    let exchange = subst (λ (steps : List StoredStep). AreExchanged steps kept dropped gained) c.as_slice.ensures.value
    c.in_ok-cited.ensures in
    let proven = subst (λ (n : ℕ). KeepsAside (λ k. k ≡ n) s1 s2) c.proof_cell.ensures c.in_ok-put_body.ensures.keeps in
    let out = subst (λ (l : List ℕ). KeepsAside (IsCitersOf l) s2 s3) c.as_slice-3.ensures.value c.in_ok-count_out.ensures.keeps in
    MatchResult-weaker c.count_in.result {P' = λ _. (label : List ℕ) → ReprovesWithin s0 s4 i label kept} c.count_in.ensures.keeps
    (λ _ more label. resteps_within s0 s1 s2 s3 s4 i label former kept dropped gained c.stored_proof.ensures.looks
    c.put_body.ensures.onward c.count_out.ensures.onward c.count_in.ensures.onward c.in_ok-former.ensures.ok exchange proven out
    (subst (λ (l : List ℕ). KeepsAside (IsCitersOf l) s3 s4) c.as_slice-4.ensures.value more)) (λ _ t. t)

pub returns-in_err-former-clause-reads : goal.returns-in_err-former-clause-reads
returns-in_err-former-clause-reads g c label =
    let s0 = g.C.Cells.sight c.args.cells.now in
    let s1 = g.C.Cells.sight c.stored_proof.new.cells in
    resteps_end s0 c.args.slot label c.args.kept.now s1
    (resteps_proof s0 c.args.slot label c.args.kept.now s0 s1 c.stored_proof.ensures.reads)

pub returns-in_err-cited-clause-reads : goal.returns-in_err-cited-clause-reads
returns-in_err-cited-clause-reads g c label =
    let s0 = g.C.Cells.sight c.args.cells.now in
    let s1 = g.C.Cells.sight c.stored_proof.new.cells in
    resteps_end s0 c.args.slot label c.args.kept.now s1
    (resteps_proof s0 c.args.slot label c.args.kept.now s0 s1 c.stored_proof.ensures.reads)

pub returns-in_err-body-clause-reads : goal.returns-in_err-body-clause-reads
returns-in_err-body-clause-reads g c label =
    let s0 = g.C.Cells.sight c.args.cells.now in
    let s1 = g.C.Cells.sight c.stored_proof.new.cells in
    resteps_end s0 c.args.slot label c.args.kept.now s1
    (resteps_proof s0 c.args.slot label c.args.kept.now s0 s1 c.stored_proof.ensures.reads)

pub returns-in_err-put_body-clause-reads : goal.returns-in_err-put_body-clause-reads
returns-in_err-put_body-clause-reads g c label =
    let s0 = g.C.Cells.sight c.args.cells.now in
    let s1 = g.C.Cells.sight c.stored_proof.new.cells in
    let s2 = g.C.Cells.sight c.put_body.new.cells in
    let put = subst (λ (n : ℕ). ReadsWithin (λ k. k ≡ n) s1 s2) c.proof_cell.ensures c.put_body.ensures.reads in
    resteps_end s0 c.args.slot label c.args.kept.now s2
    (resteps_put s0 c.args.slot label c.args.kept.now s1 s2 c.stored_proof.ensures.reads c.put_body.ensures.onward put)

pub returns-in_err-count_out-clause-reads : goal.returns-in_err-count_out-clause-reads
returns-in_err-count_out-clause-reads g c label =
    let s0 = g.C.Cells.sight c.args.cells.now in
    let s1 = g.C.Cells.sight c.stored_proof.new.cells in
    let s2 = g.C.Cells.sight c.put_body.new.cells in
    let s3 = g.C.Cells.sight c.count_out.new.cells in
    let i = c.args.slot in
    let former = c.in_ok-former.former.items in
    let kept = c.args.kept.now in
    let dropped = c.in_ok-cited.cited.dropped.items in
    let gained = c.in_ok-cited.cited.gained.items in
    let exchange = subst (λ (steps : List StoredStep). AreExchanged steps kept dropped gained) c.as_slice.ensures.value
    c.in_ok-cited.ensures in
    let put = subst (λ (n : ℕ). ReadsWithin (λ k. k ≡ n) s1 s2) c.proof_cell.ensures c.put_body.ensures.reads in
    let r2 = resteps_put s0 i label kept s1 s2 c.stored_proof.ensures.reads c.put_body.ensures.onward put in
    let out = subst (λ (l : List ℕ). ReadsWithin (IsCitersOf l) s2 s3) c.as_slice-3.ensures.value c.count_out.ensures.reads in
    resteps_end s0 i label kept s3 (resteps_out s0 i label kept s1 s2 s3 former dropped gained c.stored_proof.ensures.looks
    c.put_body.ensures.onward c.count_out.ensures.onward c.in_ok-former.ensures.ok exchange r2 out)

pub returns-clause-reads : goal.returns-clause-reads
returns-clause-reads g c label =
    let s0 = g.C.Cells.sight c.args.cells.now in
    let s1 = g.C.Cells.sight c.stored_proof.new.cells in
    let s2 = g.C.Cells.sight c.put_body.new.cells in
    let s3 = g.C.Cells.sight c.count_out.new.cells in
    let s4 = g.C.Cells.sight c.count_in.new.cells in
    let i = c.args.slot in
    let former = c.in_ok-former.former.items in
    let kept = c.args.kept.now in
    let dropped = c.in_ok-cited.cited.dropped.items in
    let gained = c.in_ok-cited.cited.gained.items in
    let exchange = subst (λ (steps : List StoredStep). AreExchanged steps kept dropped gained) c.as_slice.ensures.value
    c.in_ok-cited.ensures in
    let put = subst (λ (n : ℕ). ReadsWithin (λ k. k ≡ n) s1 s2) c.proof_cell.ensures c.put_body.ensures.reads in
    let r2 = resteps_put s0 i label kept s1 s2 c.stored_proof.ensures.reads c.put_body.ensures.onward put in
    let out = subst (λ (l : List ℕ). ReadsWithin (IsCitersOf l) s2 s3) c.as_slice-3.ensures.value c.count_out.ensures.reads in
    let r3 = resteps_out s0 i label kept s1 s2 s3 former dropped gained c.stored_proof.ensures.looks c.put_body.ensures.onward
    c.count_out.ensures.onward c.in_ok-former.ensures.ok exchange r2 out in
    let more = subst (λ (l : List ℕ). ReadsWithin (IsCitersOf l) s3 s4) c.as_slice-4.ensures.value c.count_in.ensures.reads in
    resteps_end s0 i label kept s4 (resteps_in s0 i label kept s1 s3 s4 former dropped gained c.stored_proof.ensures.looks
    (onward_trans _ _ _ c.put_body.ensures.onward c.count_out.ensures.onward) c.count_in.ensures.onward c.in_ok-former.ensures.ok exchange
    r3 more)

pub returns-in_err-former-clause-written : goal.returns-in_err-former-clause-written
returns-in_err-former-clause-written g c = IfOk-from_err _ _ c.from_residual.ensures.0

pub returns-in_err-former-clause-ok : goal.returns-in_err-former-clause-ok
returns-in_err-former-clause-ok g c = IfOk-from_err _ _ c.from_residual.ensures.0

pub returns-in_err-former-clause-keeps : goal.returns-in_err-former-clause-keeps
returns-in_err-former-clause-keeps g c = IfOk-from_err _ _ c.from_residual.ensures.0

pub returns-in_err-cited-clause-written : goal.returns-in_err-cited-clause-written
returns-in_err-cited-clause-written g c = IfOk-from_err _ _ c.from_residual-in_err-cited.ensures.0

pub returns-in_err-cited-clause-ok : goal.returns-in_err-cited-clause-ok
returns-in_err-cited-clause-ok g c = IfOk-from_err _ _ c.from_residual-in_err-cited.ensures.0

pub returns-in_err-cited-clause-keeps : goal.returns-in_err-cited-clause-keeps
returns-in_err-cited-clause-keeps g c = IfOk-from_err _ _ c.from_residual-in_err-cited.ensures.0

pub returns-in_err-body-clause-written : goal.returns-in_err-body-clause-written
returns-in_err-body-clause-written g c = IfOk-from_err _ _ c.from_residual-in_err-body.ensures.0

pub returns-in_err-body-clause-ok : goal.returns-in_err-body-clause-ok
returns-in_err-body-clause-ok g c = IfOk-from_err _ _ c.from_residual-in_err-body.ensures.0

pub returns-in_err-body-clause-keeps : goal.returns-in_err-body-clause-keeps
returns-in_err-body-clause-keeps g c = IfOk-from_err _ _ c.from_residual-in_err-body.ensures.0

pub returns-in_err-put_body-clause-written : goal.returns-in_err-put_body-clause-written
returns-in_err-put_body-clause-written g c = IfOk-from_err _ _ c.from_residual-in_err-put_body.ensures.0

pub returns-in_err-put_body-clause-ok : goal.returns-in_err-put_body-clause-ok
returns-in_err-put_body-clause-ok g c = IfOk-from_err _ _ c.from_residual-in_err-put_body.ensures.0

pub returns-in_err-put_body-clause-keeps : goal.returns-in_err-put_body-clause-keeps
returns-in_err-put_body-clause-keeps g c = IfOk-from_err _ _ c.from_residual-in_err-put_body.ensures.0

pub returns-in_err-count_out-clause-written : goal.returns-in_err-count_out-clause-written
returns-in_err-count_out-clause-written g c = IfOk-from_err _ _ c.from_residual-in_err-count_out.ensures.0

pub returns-in_err-count_out-clause-ok : goal.returns-in_err-count_out-clause-ok
returns-in_err-count_out-clause-ok g c = IfOk-from_err _ _ c.from_residual-in_err-count_out.ensures.0

pub returns-in_err-count_out-clause-keeps : goal.returns-in_err-count_out-clause-keeps
returns-in_err-count_out-clause-keeps g c = IfOk-from_err _ _ c.from_residual-in_err-count_out.ensures.0

pub stored_proof-requires : goal.stored_proof-requires
stored_proof-requires g c = c.requires.slot

pub returns-in_err-former-clause-onward : goal.returns-in_err-former-clause-onward
returns-in_err-former-clause-onward g c = c.stored_proof.ensures.looks.onward

pub returns-in_err-former-clause-taken : goal.returns-in_err-former-clause-taken
returns-in_err-former-clause-taken g c = omega (arith, c.stored_proof.ensures.looks.taken)

pub returns-in_err-cited-clause-onward : goal.returns-in_err-cited-clause-onward
returns-in_err-cited-clause-onward g c = c.stored_proof.ensures.looks.onward

pub returns-in_err-cited-clause-taken : goal.returns-in_err-cited-clause-taken
returns-in_err-cited-clause-taken g c = omega (arith, c.stored_proof.ensures.looks.taken)

pub returns-in_err-body-clause-onward : goal.returns-in_err-body-clause-onward
returns-in_err-body-clause-onward g c = c.stored_proof.ensures.looks.onward

pub returns-in_err-body-clause-taken : goal.returns-in_err-body-clause-taken
returns-in_err-body-clause-taken g c = omega (arith, c.stored_proof.ensures.looks.taken)

pub put_body-requires-clause-may : goal.put_body-requires-clause-may
put_body-requires-clause-may g c =
    let on = c.stored_proof.ensures.looks.onward in
    (may_write_kept on ∙ c.requires.may.0, may_stage_kept on ∙ c.requires.may.1)

pub put_body-requires-clause-cell : goal.put_body-requires-clause-cell
put_body-requires-clause-cell g c =
    let same = same_slots _ _ c.stored_proof.ensures.looks in
    subst (λ (n : ℕ). c.proof_cell.result < cell_count n) (sym same) (omega (arith, c.proof_cell.ensures, c.requires.slot))

pub count_out-requires : goal.count_out-requires
count_out-requires g c =
    may_write_kept (onward_trans _ _ _ c.stored_proof.ensures.looks.onward c.put_body.ensures.onward) ∙ c.requires.may.0

pub count_in-requires-clause-may : goal.count_in-requires-clause-may
count_in-requires-clause-may g c =
    let on = onward_trans _ _ _ c.stored_proof.ensures.looks.onward
    (onward_trans _ _ _ c.put_body.ensures.onward c.count_out.ensures.onward) in
    may_write_kept on ∙ c.requires.may.0

pub returns-in_err-put_body-clause-taken : goal.returns-in_err-put_body-clause-taken
returns-in_err-put_body-clause-taken g c =
    let same = ap (λ (l : List ℕ). length l) (c.as_slice-2.ensures.value ∙ c.in_ok-body.ensures) in
    omega (arith, same, c.stored_proof.ensures.looks.taken, c.put_body.ensures.taken)

pub returns-in_err-count_out-clause-taken : goal.returns-in_err-count_out-clause-taken
returns-in_err-count_out-clause-taken g c =
    let same = ap (λ (l : List ℕ). length l) (c.as_slice-2.ensures.value ∙ c.in_ok-body.ensures) in
    omega (arith, same, c.stored_proof.ensures.looks.taken, c.put_body.ensures.taken, c.count_out.ensures.taken)

pub returns-clause-taken : goal.returns-clause-taken
returns-clause-taken g c =
    let same = ap (λ (l : List ℕ). length l) (c.as_slice-2.ensures.value ∙ c.in_ok-body.ensures) in
    omega (
      arith,
      same,
      c.stored_proof.ensures.looks.taken,
      c.put_body.ensures.taken,
      c.count_out.ensures.taken,
      c.count_in.ensures.taken,
    )
