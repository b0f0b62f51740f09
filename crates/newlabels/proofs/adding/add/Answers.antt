use Rattle.std.proofs.Common.{◌≡◌, ◌∙◌, ◌<◌, ℕ, List, length, Some, None, sym, ap, subst, inl, inr, arith}
use Rattle.std.proofs.lemmas.Bool.{ne_eqb}
use Rattle.library.specs.declared.command.Command.TheVariants as command
use Rattle.library.specs.declared.reason.Reason.TheVariants as reason
use Rattle.bodystore.specs.declared.stored.StoredStep.{StoredStep}
use Rattle.bodystore.specs.Bodies.{proof_body}
use Rattle.cells.specs.Sight.{Sight}
use Rattle.cells.specs.Lookups.{FindsFree}
use Rattle.chains.specs.Filling.{IsFillable}
use Rattle.cells.proofs.Sights.{onward_trans, looks_trans}
use Rattle.bodystore.specs.declared.stored.StoredStep.{StoredStep}
use Rattle.cells.specs.Slots.{bucket}
use Rattle.cells.specs.Aside.{KeepsAside}
use Rattle.chains.specs.Filling.{IsOfFilling}
use Rattle.groundwork.proofs.ProofTests.{stored_on}
use Rattle.groundwork.proofs.Touching.{keeps_to_since}
use Rattle.newlabels.proofs.Touching.{add_touches, add_keeps}
use Rattle.cells.proofs.Settings.{same_slots}
use Rattle.newlabels.specs.Naming.{PassesAsNew, TellsNotNew}
use Rattle.groundwork.proofs.Refusing.{answers_ended, answers_refused}
use Rattle.newlabels.proofs.Added.{add_unlabelled, add_axiom, add_refused, add_full, add_done, MayTest}
use Rattle.groundwork.proofs.Taking.{stored_taken}
use Rattle.cells.specs.Sight.{ReadsWithin}
use Rattle.cells.specs.Footprints.{ReadsWhere, IsOfRound}
use Rattle.cells.proofs.Asking.{nothing_same, asks_nothing, asks_wider}
use Rattle.cells.proofs.Sights.{looks_refl}
use Rattle.groundwork.specs.Touches.{Touches}
use Rattle.groundwork.specs.Footprints.{IsOfNewLabel, IsOfProofTest, ReadsFor}
use Rattle.groundwork.proofs.Since.{OfCommand, since_then, since_where, since_before}
use Rattle.newlabels.proofs.adding.add.Goals as goal

-- what is told of the slice is told of the label
of_label : {O : Type 0} → (s : Sight O) (l m : List ℕ) → l ≡ m → PassesAsNew s l l → PassesAsNew s m m
of_label s l m is h = subst (λ (x : List ℕ). PassesAsNew s x x) is h

pub returns-in_err-test_new_label-clause-answers : goal.returns-in_err-test_new_label-clause-answers
returns-in_err-test_new_label-clause-answers g c =
    let s0 = g.C.Cells.sight c.args.cells.now in
    let s1 = g.C.Cells.sight c.test_new_label.new.cells in
    let a = c.args.assertion.now in
    let rank = c.args.rank in
    let error = c.in_err-test_new_label.field-0.0 in
    let told : TellsNotNew s1 a.label a.label error =
    subst (λ (x : List ℕ). TellsNotNew s1 x x error) c.as_slice-label.ensures c.in_err-test_new_label.ensures.err in
    answers_ended s0 s1 (command.Add rank a) c.from_residual.result error c.from_residual.ensures.1
    (add_unlabelled s0 s1 rank a (ne_eqb c.args.rank 0 c.if-rank-eq0.false) c.test_new_label.ensures.looks error told)

pub returns-in-Axiom-clause-answers : goal.returns-in-Axiom-clause-answers
returns-in-Axiom-clause-answers g c =
    let s0 = g.C.Cells.sight c.args.cells.now in
    let s1 = g.C.Cells.sight c.test_new_label.new.cells in
    let a = c.args.assertion.now in
    let rank = c.args.rank in
    answers_refused s0 s1 (command.Add rank a) reason.AxiomNotAllowed c.into-in-Axiom.result c.into-in-Axiom.ensures
    (add_axiom s0 s1 rank a (ne_eqb c.args.rank 0 c.if-rank-eq0.false) c.test_new_label.ensures.looks
    (of_label s1 c.as_slice-label.result.now a.label c.as_slice-label.ensures c.in_ok-test_new_label.ensures.ok) c.in-Axiom.is)

pub returns-in_err-kept-clause-onward : goal.returns-in_err-kept-clause-onward
returns-in_err-kept-clause-onward g c = onward_trans _ _ _ c.test_new_label.ensures.looks.onward c.test_proof.ensures.looks.onward

pub returns-in_err-kept-clause-answers : goal.returns-in_err-kept-clause-answers
returns-in_err-kept-clause-answers g c =
    let s0 = g.C.Cells.sight c.args.cells.now in
    let s1 = g.C.Cells.sight c.test_new_label.new.cells in
    let s2 = g.C.Cells.sight c.test_proof.new.cells in
    let a = c.args.assertion.now in
    let rank = c.args.rank in
    let may : MayTest s0 s1 rank a =
    record {
      ranked = ne_eqb c.args.rank 0 c.if-rank-eq0.false;
      new = of_label s1 c.as_slice-label.result.now a.label c.as_slice-label.ensures c.in_ok-test_new_label.ensures.ok;
      theorem = c.in_default.is;
      looks = c.test_new_label.ensures.looks;
    } in
    answers_ended s0 s2 (command.Add rank a) c.from_residual-in_err-kept.result c.in_err-kept.field-0.0
    c.from_residual-in_err-kept.ensures.1
    (add_refused s0 s1 s2 rank a may c.test_proof.ensures.looks c.in_err-kept.field-0.0 c.in_err-kept.ensures.err)

pub returns-in_err-slot-clause-onward : goal.returns-in_err-slot-clause-onward
returns-in_err-slot-clause-onward g c =
    onward_trans _ _ _ c.test_new_label.ensures.looks.onward
    (onward_trans _ _ _ c.test_proof.ensures.looks.onward c.free_slot.ensures.looks.onward)

pub returns-in_default-2-clause-onward : goal.returns-in_default-2-clause-onward
returns-in_default-2-clause-onward g c =
    onward_trans _ _ _ c.test_new_label.ensures.looks.onward
    (onward_trans _ _ _ c.test_proof.ensures.looks.onward c.free_slot.ensures.looks.onward)

pub returns-in_default-2-clause-answers : goal.returns-in_default-2-clause-answers
returns-in_default-2-clause-answers g c =
    let s0 = g.C.Cells.sight c.args.cells.now in
    let s1 = g.C.Cells.sight c.test_new_label.new.cells in
    let s2 = g.C.Cells.sight c.test_proof.new.cells in
    let s3 = g.C.Cells.sight c.free_slot.new.cells in
    let a = c.args.assertion.now in
    let rank = c.args.rank in
    let may : MayTest s0 s1 rank a =
    record {
      ranked = ne_eqb c.args.rank 0 c.if-rank-eq0.false;
      new = of_label s1 c.as_slice-label.result.now a.label c.as_slice-label.ensures c.in_ok-test_new_label.ensures.ok;
      theorem = c.in_default.is;
      looks = c.test_new_label.ensures.looks;
    } in
    let full : FindsFree s3 c.bucket-from.result None =
    subst (FindsFree s3 c.bucket-from.result) c.in_default-2.is c.in_ok-slot.ensures.ok in
    answers_refused s0 s3 (command.Add rank a) reason.LibraryFull c.into-in_default-2.result c.into-in_default-2.ensures
    (add_full s0 s1 s2 rank a may c.test_proof.ensures.looks c.in_ok-kept.kept.items c.in_ok-kept.ensures.ok s3 c.free_slot.ensures.looks
    c.bucket-from.result full)

pub fill-requires-clause-fillable : goal.fill-requires-clause-fillable
fill-requires-clause-fillable g c =
    let s1 = g.C.Cells.sight c.test_new_label.new.cells in
    let s2 = g.C.Cells.sight c.test_proof.new.cells in
    let s3 = g.C.Cells.sight c.free_slot.new.cells in
    let a = c.args.assertion.now in
    let new = of_label s1 c.as_slice-label.result.now a.label c.as_slice-label.ensures c.in_ok-test_new_label.ensures.ok in
    let passes = c.in_ok-kept.ensures.ok in
    subst (IsFillable s3.setting.slots a) (sym c.as_slice.ensures.value) (record {
      labelled = new.some;
      some = λ _. passes.some;
      none = λ e. absurd (c.in_default.not-Axiom e);
      within = λ i h. subst (λ (n : ℕ). i < n) (sym (same_slots s2 s3 c.free_slot.ensures.looks)) (passes.within i h);
    })

pub returns-in_err-fill-clause-onward : goal.returns-in_err-fill-clause-onward
returns-in_err-fill-clause-onward g c =
    onward_trans _ _ _ c.test_new_label.ensures.looks.onward
    (onward_trans _ _ _ c.test_proof.ensures.looks.onward (onward_trans _ _ _ c.free_slot.ensures.looks.onward c.fill.ensures.onward))

pub returns-clause-onward : goal.returns-clause-onward
returns-clause-onward g c =
    onward_trans _ _ _ c.test_new_label.ensures.looks.onward
    (onward_trans _ _ _ c.test_proof.ensures.looks.onward (onward_trans _ _ _ c.free_slot.ensures.looks.onward c.fill.ensures.onward))

pub returns-clause-answers : goal.returns-clause-answers
returns-clause-answers g c =
    let s0 = g.C.Cells.sight c.args.cells.now in
    let s1 = g.C.Cells.sight c.test_new_label.new.cells in
    let s2 = g.C.Cells.sight c.test_proof.new.cells in
    let s3 = g.C.Cells.sight c.free_slot.new.cells in
    let s4 = g.C.Cells.sight c.fill.new.cells in
    let a = c.args.assertion.now in
    let rank = c.args.rank in
    let may : MayTest s0 s1 rank a =
    record {
      ranked = ne_eqb c.args.rank 0 c.if-rank-eq0.false;
      new = of_label s1 c.as_slice-label.result.now a.label c.as_slice-label.ensures c.in_ok-test_new_label.ensures.ok;
      theorem = c.in_default.is;
      looks = c.test_new_label.ensures.looks;
    } in
    let first : FindsFree s3 c.bucket-from.result (Some c.in-Some.slot) =
    subst (FindsFree s3 c.bucket-from.result) c.in-Some.is c.in_ok-slot.ensures.ok in
    add_done s0 s1 s2 rank a may c.test_proof.ensures.looks c.in_ok-kept.kept.items c.in_ok-kept.ensures.ok s3 c.free_slot.ensures.looks s4
    c.bucket-from.result c.in-Some.slot c.as_slice.result.now first c.fill.ensures.onward c.as_slice.ensures.value c.in_ok-fill.ensures.ok
    c.in_ok-fill.ensures.written

pub returns-in_err-fill-clause-taken : goal.returns-in_err-fill-clause-taken
returns-in_err-fill-clause-taken g c st lib m v =
    let looks = looks_trans _ _ _ c.test_new_label.ensures.looks c.test_proof.ensures.looks in
    let on = onward_trans _ _ _ c.free_slot.ensures.looks.onward c.fill.ensures.onward in
    let long = stored_taken (g.C.Cells.sight c.args.cells.now) (g.C.Cells.sight c.test_proof.new.cells)
    (g.C.Cells.sight c.fill.new.cells) looks on
    c.args.assertion.now.proof c.in_ok-kept.kept.items c.in_ok-kept.ensures.ok.stored st lib m v in
    let same = ap (λ (ks : List StoredStep). length (proof_body ks)) c.as_slice.ensures.value in
    omega (arith, long, same, c.fill.ensures.taken, c.free_slot.ensures.looks.taken, looks.taken)

pub returns-clause-taken : goal.returns-clause-taken
returns-clause-taken g c st lib m v =
    let looks = looks_trans _ _ _ c.test_new_label.ensures.looks c.test_proof.ensures.looks in
    let on = onward_trans _ _ _ c.free_slot.ensures.looks.onward c.fill.ensures.onward in
    let long = stored_taken (g.C.Cells.sight c.args.cells.now) (g.C.Cells.sight c.test_proof.new.cells)
    (g.C.Cells.sight c.fill.new.cells) looks on
    c.args.assertion.now.proof c.in_ok-kept.kept.items c.in_ok-kept.ensures.ok.stored st lib m v in
    let same = ap (λ (ks : List StoredStep). length (proof_body ks)) c.as_slice.ensures.value in
    omega (arith, long, same, c.fill.ensures.taken, c.free_slot.ensures.looks.taken, looks.taken)

pub returns-clause-keeps : goal.returns-clause-keeps
returns-clause-keeps g c =
    let s0 = g.C.Cells.sight c.args.cells.now in
    let s2 = g.C.Cells.sight c.test_proof.new.cells in
    let s3 = g.C.Cells.sight c.free_slot.new.cells in
    let s4 = g.C.Cells.sight c.fill.new.cells in
    let a = c.args.assertion.now in
    let slot = c.in-Some.slot in
    let kept = c.in_ok-kept.kept.items in
    let on = c.free_slot.ensures.looks in
    let first : FindsFree s3 c.bucket-from.result (Some c.in-Some.slot) =
    subst (FindsFree s3 c.bucket-from.result) c.in-Some.is c.in_ok-slot.ensures.ok in
    let from_is : c.bucket-from.result ≡ bucket s3.setting.slots a.label =
    c.bucket-from.ensures.value
    ∙ ap (λ (n : ℕ). bucket n c.as_slice-label.result.now) (c.slot_count.ensures.value ∙ sym (same_slots s2 s3 on))
    ∙ ap (bucket s3.setting.slots) c.as_slice-label.ensures in
    keeps_to_since s0 s3 s4 (command.Add c.args.rank a)
    (looks_trans _ _ _ c.test_new_label.ensures.looks (looks_trans _ _ _ c.test_proof.ensures.looks on)) c.fill.ensures.onward
    (add_keeps s3 s4 c.bucket-from.result slot c.args.rank a kept from_is first
    (stored_on s2 s3 a.proof kept on c.in_ok-kept.ensures.ok.stored)
    (subst (λ (steps : List StoredStep). KeepsAside (IsOfFilling s3.setting.slots slot a.label steps) s3 s4) c.as_slice.ensures.value
    c.in_ok-fill.ensures.keeps))

pub returns-then-rank-eq0-clause-reads : goal.returns-then-rank-eq0-clause-reads
returns-then-rank-eq0-clause-reads g c =
    λ st lib m v. asks_nothing (nothing_same _)

pub returns-in_err-test_new_label-clause-reads : goal.returns-in_err-test_new_label-clause-reads
returns-in_err-test_new_label-clause-reads g c =
    let s0 = g.C.Cells.sight c.args.cells.now in
    let s1 = g.C.Cells.sight c.test_new_label.new.cells in
    let a = c.args.assertion.now in
    let x = command.Add c.args.rank a in
    let r1 : ReadsFor s0 s1 (command.Add c.args.rank c.args.assertion.now) =
    since_where (OfCommand s0 x) s0 s0 s1 (looks_refl s0) (λ n. IsOfNewLabel n a.label a.label) (λ st lib k is. inl is)
    (subst (λ (l : List ℕ). ReadsWhere (IsOfNewLabel s0.setting.slots l l) s0 s1) c.as_slice-label.ensures
    c.test_new_label.ensures.reads) in
    r1

pub returns-in-Axiom-clause-reads : goal.returns-in-Axiom-clause-reads
returns-in-Axiom-clause-reads g c =
    let s0 = g.C.Cells.sight c.args.cells.now in
    let s1 = g.C.Cells.sight c.test_new_label.new.cells in
    let a = c.args.assertion.now in
    let x = command.Add c.args.rank a in
    let r1 : ReadsFor s0 s1 (command.Add c.args.rank c.args.assertion.now) =
    since_where (OfCommand s0 x) s0 s0 s1 (looks_refl s0) (λ n. IsOfNewLabel n a.label a.label) (λ st lib k is. inl is)
    (subst (λ (l : List ℕ). ReadsWhere (IsOfNewLabel s0.setting.slots l l) s0 s1) c.as_slice-label.ensures
    c.test_new_label.ensures.reads) in
    r1

pub returns-in_err-kept-clause-reads : goal.returns-in_err-kept-clause-reads
returns-in_err-kept-clause-reads g c =
    let s0 = g.C.Cells.sight c.args.cells.now in
    let s1 = g.C.Cells.sight c.test_new_label.new.cells in
    let a = c.args.assertion.now in
    let x = command.Add c.args.rank a in
    let r1 : ReadsFor s0 s1 (command.Add c.args.rank c.args.assertion.now) =
    since_where (OfCommand s0 x) s0 s0 s1 (looks_refl s0) (λ n. IsOfNewLabel n a.label a.label) (λ st lib k is. inl is)
    (subst (λ (l : List ℕ). ReadsWhere (IsOfNewLabel s0.setting.slots l l) s0 s1) c.as_slice-label.ensures
    c.test_new_label.ensures.reads) in
    let s2 = g.C.Cells.sight c.test_proof.new.cells in
    let l1 = c.test_new_label.ensures.looks in
    let r2 : ReadsFor s0 s2 (command.Add c.args.rank c.args.assertion.now) =
    since_then (OfCommand s0 x) r1 c.test_proof.ensures.looks.onward
    (since_before (OfCommand s0 x) s0 s1 s2 l1 (λ n st lib k. IsOfProofTest n st lib a.proof k) (λ st lib k is. inr (inl is))
    c.test_proof.ensures.looks.onward c.test_proof.ensures.reads) in
    r2

pub returns-in_err-slot-clause-reads : goal.returns-in_err-slot-clause-reads
returns-in_err-slot-clause-reads g c =
    let s0 = g.C.Cells.sight c.args.cells.now in
    let s1 = g.C.Cells.sight c.test_new_label.new.cells in
    let a = c.args.assertion.now in
    let x = command.Add c.args.rank a in
    let r1 : ReadsFor s0 s1 (command.Add c.args.rank c.args.assertion.now) =
    since_where (OfCommand s0 x) s0 s0 s1 (looks_refl s0) (λ n. IsOfNewLabel n a.label a.label) (λ st lib k is. inl is)
    (subst (λ (l : List ℕ). ReadsWhere (IsOfNewLabel s0.setting.slots l l) s0 s1) c.as_slice-label.ensures
    c.test_new_label.ensures.reads) in
    let s2 = g.C.Cells.sight c.test_proof.new.cells in
    let l1 = c.test_new_label.ensures.looks in
    let r2 : ReadsFor s0 s2 (command.Add c.args.rank c.args.assertion.now) =
    since_then (OfCommand s0 x) r1 c.test_proof.ensures.looks.onward
    (since_before (OfCommand s0 x) s0 s1 s2 l1 (λ n st lib k. IsOfProofTest n st lib a.proof k) (λ st lib k is. inr (inl is))
    c.test_proof.ensures.looks.onward c.test_proof.ensures.reads) in
    let s3 = g.C.Cells.sight c.free_slot.new.cells in
    let l2 = looks_trans _ _ _ l1 c.test_proof.ensures.looks in
    let round_is : c.bucket-from.result ≡ bucket s2.setting.slots c.args.assertion.now.label =
    c.bucket-from.ensures.value ∙ ap (λ (n : ℕ). bucket n c.as_slice-label.result.now) c.slot_count.ensures.value
    ∙ ap (bucket s2.setting.slots) c.as_slice-label.ensures in
    let r3 : ReadsFor s0 s3 (command.Add c.args.rank c.args.assertion.now) =
    since_then (OfCommand s0 x) r2 c.free_slot.ensures.looks.onward
    (since_where (OfCommand s0 x) s0 s2 s3 l2 (λ n. IsOfRound n (bucket n a.label)) (λ st lib k is. inr (inr (inl is)))
    (subst (λ (n : ℕ). ReadsWhere (IsOfRound s2.setting.slots n) s2 s3) round_is c.free_slot.ensures.reads)) in
    r3

pub returns-in_default-2-clause-reads : goal.returns-in_default-2-clause-reads
returns-in_default-2-clause-reads g c =
    let s0 = g.C.Cells.sight c.args.cells.now in
    let s1 = g.C.Cells.sight c.test_new_label.new.cells in
    let a = c.args.assertion.now in
    let x = command.Add c.args.rank a in
    let r1 : ReadsFor s0 s1 (command.Add c.args.rank c.args.assertion.now) =
    since_where (OfCommand s0 x) s0 s0 s1 (looks_refl s0) (λ n. IsOfNewLabel n a.label a.label) (λ st lib k is. inl is)
    (subst (λ (l : List ℕ). ReadsWhere (IsOfNewLabel s0.setting.slots l l) s0 s1) c.as_slice-label.ensures
    c.test_new_label.ensures.reads) in
    let s2 = g.C.Cells.sight c.test_proof.new.cells in
    let l1 = c.test_new_label.ensures.looks in
    let r2 : ReadsFor s0 s2 (command.Add c.args.rank c.args.assertion.now) =
    since_then (OfCommand s0 x) r1 c.test_proof.ensures.looks.onward
    (since_before (OfCommand s0 x) s0 s1 s2 l1 (λ n st lib k. IsOfProofTest n st lib a.proof k) (λ st lib k is. inr (inl is))
    c.test_proof.ensures.looks.onward c.test_proof.ensures.reads) in
    let s3 = g.C.Cells.sight c.free_slot.new.cells in
    let l2 = looks_trans _ _ _ l1 c.test_proof.ensures.looks in
    let round_is : c.bucket-from.result ≡ bucket s2.setting.slots c.args.assertion.now.label =
    c.bucket-from.ensures.value ∙ ap (λ (n : ℕ). bucket n c.as_slice-label.result.now) c.slot_count.ensures.value
    ∙ ap (bucket s2.setting.slots) c.as_slice-label.ensures in
    let r3 : ReadsFor s0 s3 (command.Add c.args.rank c.args.assertion.now) =
    since_then (OfCommand s0 x) r2 c.free_slot.ensures.looks.onward
    (since_where (OfCommand s0 x) s0 s2 s3 l2 (λ n. IsOfRound n (bucket n a.label)) (λ st lib k is. inr (inr (inl is)))
    (subst (λ (n : ℕ). ReadsWhere (IsOfRound s2.setting.slots n) s2 s3) round_is c.free_slot.ensures.reads)) in
    r3

pub returns-in_err-fill-clause-reads : goal.returns-in_err-fill-clause-reads
returns-in_err-fill-clause-reads g c =
    let s0 = g.C.Cells.sight c.args.cells.now in
    let s1 = g.C.Cells.sight c.test_new_label.new.cells in
    let a = c.args.assertion.now in
    let x = command.Add c.args.rank a in
    let r1 : ReadsFor s0 s1 (command.Add c.args.rank c.args.assertion.now) =
    since_where (OfCommand s0 x) s0 s0 s1 (looks_refl s0) (λ n. IsOfNewLabel n a.label a.label) (λ st lib k is. inl is)
    (subst (λ (l : List ℕ). ReadsWhere (IsOfNewLabel s0.setting.slots l l) s0 s1) c.as_slice-label.ensures
    c.test_new_label.ensures.reads) in
    let s2 = g.C.Cells.sight c.test_proof.new.cells in
    let l1 = c.test_new_label.ensures.looks in
    let r2 : ReadsFor s0 s2 (command.Add c.args.rank c.args.assertion.now) =
    since_then (OfCommand s0 x) r1 c.test_proof.ensures.looks.onward
    (since_before (OfCommand s0 x) s0 s1 s2 l1 (λ n st lib k. IsOfProofTest n st lib a.proof k) (λ st lib k is. inr (inl is))
    c.test_proof.ensures.looks.onward c.test_proof.ensures.reads) in
    let s3 = g.C.Cells.sight c.free_slot.new.cells in
    let l2 = looks_trans _ _ _ l1 c.test_proof.ensures.looks in
    let round_is : c.bucket-from.result ≡ bucket s2.setting.slots c.args.assertion.now.label =
    c.bucket-from.ensures.value ∙ ap (λ (n : ℕ). bucket n c.as_slice-label.result.now) c.slot_count.ensures.value
    ∙ ap (bucket s2.setting.slots) c.as_slice-label.ensures in
    let r3 : ReadsFor s0 s3 (command.Add c.args.rank c.args.assertion.now) =
    since_then (OfCommand s0 x) r2 c.free_slot.ensures.looks.onward
    (since_where (OfCommand s0 x) s0 s2 s3 l2 (λ n. IsOfRound n (bucket n a.label)) (λ st lib k is. inr (inr (inl is)))
    (subst (λ (n : ℕ). ReadsWhere (IsOfRound s2.setting.slots n) s2 s3) round_is c.free_slot.ensures.reads)) in
    let s4 = g.C.Cells.sight c.fill.new.cells in
    let slot = c.in-Some.slot in
    let kept = c.in_ok-kept.kept.items in
    let on = c.free_slot.ensures.looks in
    let first : FindsFree s3 c.bucket-from.result (Some c.in-Some.slot) =
    subst (FindsFree s3 c.bucket-from.result) c.in-Some.is c.in_ok-slot.ensures.ok in
    let from_is : c.bucket-from.result ≡ bucket s3.setting.slots c.args.assertion.now.label =
    round_is ∙ ap (λ (n : ℕ). bucket n c.args.assertion.now.label) (sym (same_slots s2 s3 on)) in
    let filled : ReadsWithin (IsOfFilling s3.setting.slots c.in-Some.slot c.args.assertion.now.label c.in_ok-kept.kept.items) s3 s4 =
    subst (λ (steps : List StoredStep). ReadsWithin (IsOfFilling s3.setting.slots slot a.label steps) s3 s4) c.as_slice.ensures.value
    c.fill.ensures.reads in
    since_then (OfCommand s0 x) r3 c.fill.ensures.onward
    (since_before (OfCommand s0 x) s0 s3 s4 (looks_trans _ _ _ l2 on)
    (λ n st lib k. Touches n st lib (command.Add c.args.rank c.args.assertion.now) k)
    (λ st lib k is. inr (inr (inr is))) c.fill.ensures.onward (λ st lib m v.
    asks_wider (add_touches s3 c.bucket-from.result slot c.args.rank a kept from_is first
    (stored_on s2 s3 a.proof kept on c.in_ok-kept.ensures.ok.stored) st lib v) filled))

pub returns-clause-reads : goal.returns-clause-reads
returns-clause-reads g c =
    let s0 = g.C.Cells.sight c.args.cells.now in
    let s1 = g.C.Cells.sight c.test_new_label.new.cells in
    let a = c.args.assertion.now in
    let x = command.Add c.args.rank a in
    let r1 : ReadsFor s0 s1 (command.Add c.args.rank c.args.assertion.now) =
    since_where (OfCommand s0 x) s0 s0 s1 (looks_refl s0) (λ n. IsOfNewLabel n a.label a.label) (λ st lib k is. inl is)
    (subst (λ (l : List ℕ). ReadsWhere (IsOfNewLabel s0.setting.slots l l) s0 s1) c.as_slice-label.ensures
    c.test_new_label.ensures.reads) in
    let s2 = g.C.Cells.sight c.test_proof.new.cells in
    let l1 = c.test_new_label.ensures.looks in
    let r2 : ReadsFor s0 s2 (command.Add c.args.rank c.args.assertion.now) =
    since_then (OfCommand s0 x) r1 c.test_proof.ensures.looks.onward
    (since_before (OfCommand s0 x) s0 s1 s2 l1 (λ n st lib k. IsOfProofTest n st lib a.proof k) (λ st lib k is. inr (inl is))
    c.test_proof.ensures.looks.onward c.test_proof.ensures.reads) in
    let s3 = g.C.Cells.sight c.free_slot.new.cells in
    let l2 = looks_trans _ _ _ l1 c.test_proof.ensures.looks in
    let round_is : c.bucket-from.result ≡ bucket s2.setting.slots c.args.assertion.now.label =
    c.bucket-from.ensures.value ∙ ap (λ (n : ℕ). bucket n c.as_slice-label.result.now) c.slot_count.ensures.value
    ∙ ap (bucket s2.setting.slots) c.as_slice-label.ensures in
    let r3 : ReadsFor s0 s3 (command.Add c.args.rank c.args.assertion.now) =
    since_then (OfCommand s0 x) r2 c.free_slot.ensures.looks.onward
    (since_where (OfCommand s0 x) s0 s2 s3 l2 (λ n. IsOfRound n (bucket n a.label)) (λ st lib k is. inr (inr (inl is)))
    (subst (λ (n : ℕ). ReadsWhere (IsOfRound s2.setting.slots n) s2 s3) round_is c.free_slot.ensures.reads)) in
    let s4 = g.C.Cells.sight c.fill.new.cells in
    let slot = c.in-Some.slot in
    let kept = c.in_ok-kept.kept.items in
    let on = c.free_slot.ensures.looks in
    let first : FindsFree s3 c.bucket-from.result (Some c.in-Some.slot) =
    subst (FindsFree s3 c.bucket-from.result) c.in-Some.is c.in_ok-slot.ensures.ok in
    let from_is : c.bucket-from.result ≡ bucket s3.setting.slots c.args.assertion.now.label =
    round_is ∙ ap (λ (n : ℕ). bucket n c.args.assertion.now.label) (sym (same_slots s2 s3 on)) in
    let filled : ReadsWithin (IsOfFilling s3.setting.slots c.in-Some.slot c.args.assertion.now.label c.in_ok-kept.kept.items) s3 s4 =
    subst (λ (steps : List StoredStep). ReadsWithin (IsOfFilling s3.setting.slots slot a.label steps) s3 s4) c.as_slice.ensures.value
    c.fill.ensures.reads in
    since_then (OfCommand s0 x) r3 c.fill.ensures.onward
    (since_before (OfCommand s0 x) s0 s3 s4 (looks_trans _ _ _ l2 on)
    (λ n st lib k. Touches n st lib (command.Add c.args.rank c.args.assertion.now) k)
    (λ st lib k is. inr (inr (inr is))) c.fill.ensures.onward (λ st lib m v.
    asks_wider (add_touches s3 c.bucket-from.result slot c.args.rank a kept from_is first
    (stored_on s2 s3 a.proof kept on c.in_ok-kept.ensures.ok.stored) st lib v) filled))
