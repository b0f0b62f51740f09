use Rattle.std.proofs.Common.{◌≡◌, ◌<◌, ℕ, List, Option, Some, None, Vec, true, sym, subst, inl, inr}
use Rattle.std.specs.declared.alloc.Global.{Global}
use Rattle.std.specs.Option.{option_map}
use Rattle.mmsyntax.specs.declared.statement.Step.{Step}
use Rattle.bodystore.specs.declared.stored.StoredStep.{StoredStep}
use Rattle.bodystore.specs.declared.stored.StoredStep.TheVariants.{Slot}
use Rattle.ranges.specs.Ranges.{Has}
use Rattle.cells.specs.Sight.{Sight}
use Rattle.cells.specs.Lookups.{Resolves}
use Rattle.cells.proofs.Sights.{looks_trans}
use Rattle.cells.proofs.Settings.{same_slots}
use Rattle.groundwork.specs.Citing.{TellsNotBelow, TellsRefusal, frames_in}
use Rattle.groundwork.proofs.Outcomes.{tells-none, tells-fault}
use Rattle.groundwork.proofs.ProofTests.{fails_unknown, fails_below, fails_fault, passes, sifted}
use Rattle.cells.specs.Slots.{statement_cell, rank_cell}
use Rattle.cells.specs.Sight.{ReadsWithin}
use Rattle.cells.specs.Footprints.{IsOfResolving}
use Rattle.cells.proofs.Sights.{looks_refl}
use Rattle.groundwork.specs.Footprints.{IsRankOfSteps, IsStatementOfSteps}
use Rattle.groundwork.proofs.Since.{ReadsSince, since_then, since_where}
use Rattle.groundwork.proofs.TestReads.{OfTest, since_cited}
use Rattle.std.proofs.lemmas.Result.{IfOk-from_err}
use Rattle.groundwork.proofs.citing.test_proof.Goals as goal

-- what is resolved of the proof
of_proof : {O : Type 0} → (s : Sight O) (proof : List Step) (found other : Option (Vec StoredStep Global)) → found ≡ other
    → Resolves s proof (option_map (λ v. v.items) found) → Resolves s proof (option_map (λ v. v.items) other)
of_proof s proof found other is h = subst (λ (o : Option (Vec StoredStep Global)). Resolves s proof (option_map (λ v. v.items) o)) is h

pub returns-in_default-clause-err : goal.returns-in_default-clause-err
returns-in_default-clause-err g c =
    let s = g.C.Cells.sight c.resolve.new.cells in
    let rank = c.args.rank in
    let a = c.args.theorem.now in
    subst (TellsRefusal s rank a) (sym c.into.ensures)
    (fails_unknown s rank a
    (of_proof s c.args.theorem.now.proof c.in_ok-kept.field-0 None c.in_default.is c.in_ok-kept.ensures.ok))

pub returns-in_err-cites_not_below-clause-looks : goal.returns-in_err-cites_not_below-clause-looks
returns-in_err-cites_not_below-clause-looks g c = looks_trans _ _ _ c.resolve.ensures.looks c.cites_not_below.ensures.looks

pub returns-then-branch-clause-looks : goal.returns-then-branch-clause-looks
returns-then-branch-clause-looks g c = looks_trans _ _ _ c.resolve.ensures.looks c.cites_not_below.ensures.looks

pub returns-then-branch-clause-err : goal.returns-then-branch-clause-err
returns-then-branch-clause-err g c =
    let s1 = g.C.Cells.sight c.resolve.new.cells in
    let s2 = g.C.Cells.sight c.cites_not_below.new.cells in
    let rank = c.args.rank in
    let a = c.args.theorem.now in
    let kept = c.in-Some.kept.items in
    let resolved = of_proof s1 c.args.theorem.now.proof c.in_ok-kept.field-0 (Some c.in-Some.kept) c.in-Some.is c.in_ok-kept.ensures.ok in
    let told : TellsNotBelow (g.C.Cells.sight c.cites_not_below.new.cells) c.args.rank c.as_slice.result.now
    c.in_ok-cites_not_below.field-0 =
    c.in_ok-cites_not_below.ensures.ok in
    subst (TellsRefusal s2 rank a) (sym c.into-then-branch.ensures)
    (fails_below s1 s2 rank a kept c.cites_not_below.ensures.looks resolved
    (subst (λ (ks : List StoredStep). TellsNotBelow s2 rank ks true) c.as_slice.ensures.value
    (subst (λ b. TellsNotBelow s2 rank c.as_slice.result.now b) c.if-branch.true told)))

pub cited_frames-requires : goal.cited_frames-requires
cited_frames-requires g c = λ i h.
    let s1 = g.C.Cells.sight c.resolve.new.cells in
    let resolved = of_proof s1 c.args.theorem.now.proof c.in_ok-kept.field-0 (Some c.in-Some.kept) c.in-Some.is c.in_ok-kept.ensures.ok in
    subst (λ (n : ℕ). i < n) (sym (same_slots _ _ c.cites_not_below.ensures.looks))
    (resolved.1 i (subst (λ (ks : List StoredStep). Has (Slot i) ks) c.as_slice-2.ensures.value h))

pub returns-in_err-frames-clause-looks : goal.returns-in_err-frames-clause-looks
returns-in_err-frames-clause-looks g c =
    looks_trans _ _ _ c.resolve.ensures.looks (looks_trans _ _ _ c.cites_not_below.ensures.looks c.cited_frames.ensures.looks)

pub returns-in-NoMemory-clause-looks : goal.returns-in-NoMemory-clause-looks
returns-in-NoMemory-clause-looks g c =
    looks_trans _ _ _ c.resolve.ensures.looks (looks_trans _ _ _ c.cites_not_below.ensures.looks c.cited_frames.ensures.looks)

pub returns-clause-looks : goal.returns-clause-looks
returns-clause-looks g c =
    looks_trans _ _ _ c.resolve.ensures.looks (looks_trans _ _ _ c.cites_not_below.ensures.looks c.cited_frames.ensures.looks)

pub returns-clause-err : goal.returns-clause-err
returns-clause-err g c =
    let s0 = g.C.Cells.sight c.args.cells.now in
    let s1 = g.C.Cells.sight c.resolve.new.cells in
    let s2 = g.C.Cells.sight c.cites_not_below.new.cells in
    let s3 = g.C.Cells.sight c.cited_frames.new.cells in
    let rank = c.args.rank in
    let a = c.args.theorem.now in
    let t = c.args.prelude.now in
    let kept = c.in-Some.kept.items in
    let frames = frames_in c.in_ok-frames.frames.by_label in
    let resolved = of_proof s1 c.args.theorem.now.proof c.in_ok-kept.field-0 (Some c.in-Some.kept) c.in-Some.is c.in_ok-kept.ensures.ok in
    let told : TellsNotBelow (g.C.Cells.sight c.cites_not_below.new.cells) c.args.rank c.as_slice.result.now
    c.in_ok-cites_not_below.field-0 =
    c.in_ok-cites_not_below.ensures.ok in
    let known = sifted s0 s1 s2 s3 t rank a kept c.as_slice.result.now c.as_slice-2.result.now frames
    c.requires.prelude c.resolve.ensures.looks c.cites_not_below.ensures.looks c.cited_frames.ensures.looks
    c.as_slice.ensures.value c.as_slice-2.ensures.value resolved
    (subst (λ b. TellsNotBelow s2 rank c.as_slice.result.now b) c.if-branch.false told) c.in_ok-frames.ensures.ok in
    subst (TellsRefusal s3 rank a) (sym c.into-in_default-kind.ensures)
    (fails_fault s3 t rank a kept frames c.in-Err.fault known
    (tells-fault frames t a c.in-Err.fault (c.in-Err.ensures.fault c.in_default-kind.not-NoMemory)))

pub returns-in-Ok-clause-looks : goal.returns-in-Ok-clause-looks
returns-in-Ok-clause-looks g c =
    looks_trans _ _ _ c.resolve.ensures.looks (looks_trans _ _ _ c.cites_not_below.ensures.looks c.cited_frames.ensures.looks)

pub returns-in-Ok-clause-ok : goal.returns-in-Ok-clause-ok
returns-in-Ok-clause-ok g c =
    let s0 = g.C.Cells.sight c.args.cells.now in
    let s1 = g.C.Cells.sight c.resolve.new.cells in
    let s2 = g.C.Cells.sight c.cites_not_below.new.cells in
    let s3 = g.C.Cells.sight c.cited_frames.new.cells in
    let rank = c.args.rank in
    let a = c.args.theorem.now in
    let t = c.args.prelude.now in
    let kept = c.in-Some.kept.items in
    let frames = frames_in c.in_ok-frames.frames.by_label in
    let resolved = of_proof s1 c.args.theorem.now.proof c.in_ok-kept.field-0 (Some c.in-Some.kept) c.in-Some.is c.in_ok-kept.ensures.ok in
    let told : TellsNotBelow (g.C.Cells.sight c.cites_not_below.new.cells) c.args.rank c.as_slice.result.now
    c.in_ok-cites_not_below.field-0 =
    c.in_ok-cites_not_below.ensures.ok in
    let known = sifted s0 s1 s2 s3 t rank a kept c.as_slice.result.now c.as_slice-2.result.now frames
    c.requires.prelude c.resolve.ensures.looks c.cites_not_below.ensures.looks c.cited_frames.ensures.looks
    c.as_slice.ensures.value c.as_slice-2.ensures.value resolved
    (subst (λ b. TellsNotBelow s2 rank c.as_slice.result.now b) c.if-branch.false told) c.in_ok-frames.ensures.ok in
    passes s1 s3 t rank a kept frames (looks_trans _ _ _ c.cites_not_below.ensures.looks c.cited_frames.ensures.looks) resolved known
    (tells-none frames t a c.requires.theorem c.in-Ok.ensures.yes)

pub returns-in_err-kept-clause-reads : goal.returns-in_err-kept-clause-reads
returns-in_err-kept-clause-reads g c =
    let s0 = g.C.Cells.sight c.args.cells.now in
    let s1 = g.C.Cells.sight c.resolve.new.cells in
    let steps = c.args.theorem.now.proof in
    let r1 : ReadsSince (OfTest s0 c.args.theorem.now.proof) s0 s0 s1 =
    since_where (OfTest s0 steps) s0 s0 s1 (looks_refl s0) (λ n. IsOfResolving n steps) (λ st lib k is. inl is)
    c.resolve.ensures.reads in
    r1

pub returns-in_default-clause-reads : goal.returns-in_default-clause-reads
returns-in_default-clause-reads g c =
    let s0 = g.C.Cells.sight c.args.cells.now in
    let s1 = g.C.Cells.sight c.resolve.new.cells in
    let steps = c.args.theorem.now.proof in
    let r1 : ReadsSince (OfTest s0 c.args.theorem.now.proof) s0 s0 s1 =
    since_where (OfTest s0 steps) s0 s0 s1 (looks_refl s0) (λ n. IsOfResolving n steps) (λ st lib k is. inl is)
    c.resolve.ensures.reads in
    r1

pub returns-in_err-cites_not_below-clause-reads : goal.returns-in_err-cites_not_below-clause-reads
returns-in_err-cites_not_below-clause-reads g c =
    let s0 = g.C.Cells.sight c.args.cells.now in
    let s1 = g.C.Cells.sight c.resolve.new.cells in
    let steps = c.args.theorem.now.proof in
    let r1 : ReadsSince (OfTest s0 c.args.theorem.now.proof) s0 s0 s1 =
    since_where (OfTest s0 steps) s0 s0 s1 (looks_refl s0) (λ n. IsOfResolving n steps) (λ st lib k is. inl is)
    c.resolve.ensures.reads in
    let s2 = g.C.Cells.sight c.cites_not_below.new.cells in
    let kept = c.in-Some.kept.items in
    let resolved = of_proof s1 c.args.theorem.now.proof c.in_ok-kept.field-0 (Some c.in-Some.kept) c.in-Some.is c.in_ok-kept.ensures.ok in
    let ranks : ReadsWithin (IsRankOfSteps c.in-Some.kept.items) s1 s2 =
    subst (λ (ks : List StoredStep). ReadsWithin (IsRankOfSteps ks) s1 s2) c.as_slice.ensures.value c.cites_not_below.ensures.reads in
    let r2 : ReadsSince (OfTest s0 c.args.theorem.now.proof) s0 s0 s2 =
    since_then (OfTest s0 steps) r1 c.cites_not_below.ensures.looks.onward
    (since_cited (OfTest s0 steps) s0 s1 s1 s2 steps kept rank_cell c.resolve.ensures.looks (looks_refl s1)
    c.cites_not_below.ensures.looks.onward resolved.2 (λ st lib k is. inr (inr is)) ranks) in
    r2

pub returns-then-branch-clause-reads : goal.returns-then-branch-clause-reads
returns-then-branch-clause-reads g c =
    let s0 = g.C.Cells.sight c.args.cells.now in
    let s1 = g.C.Cells.sight c.resolve.new.cells in
    let steps = c.args.theorem.now.proof in
    let r1 : ReadsSince (OfTest s0 c.args.theorem.now.proof) s0 s0 s1 =
    since_where (OfTest s0 steps) s0 s0 s1 (looks_refl s0) (λ n. IsOfResolving n steps) (λ st lib k is. inl is)
    c.resolve.ensures.reads in
    let s2 = g.C.Cells.sight c.cites_not_below.new.cells in
    let kept = c.in-Some.kept.items in
    let resolved = of_proof s1 c.args.theorem.now.proof c.in_ok-kept.field-0 (Some c.in-Some.kept) c.in-Some.is c.in_ok-kept.ensures.ok in
    let ranks : ReadsWithin (IsRankOfSteps c.in-Some.kept.items) s1 s2 =
    subst (λ (ks : List StoredStep). ReadsWithin (IsRankOfSteps ks) s1 s2) c.as_slice.ensures.value c.cites_not_below.ensures.reads in
    let r2 : ReadsSince (OfTest s0 c.args.theorem.now.proof) s0 s0 s2 =
    since_then (OfTest s0 steps) r1 c.cites_not_below.ensures.looks.onward
    (since_cited (OfTest s0 steps) s0 s1 s1 s2 steps kept rank_cell c.resolve.ensures.looks (looks_refl s1)
    c.cites_not_below.ensures.looks.onward resolved.2 (λ st lib k is. inr (inr is)) ranks) in
    r2

pub returns-in_err-frames-clause-reads : goal.returns-in_err-frames-clause-reads
returns-in_err-frames-clause-reads g c =
    let s0 = g.C.Cells.sight c.args.cells.now in
    let s1 = g.C.Cells.sight c.resolve.new.cells in
    let steps = c.args.theorem.now.proof in
    let r1 : ReadsSince (OfTest s0 c.args.theorem.now.proof) s0 s0 s1 =
    since_where (OfTest s0 steps) s0 s0 s1 (looks_refl s0) (λ n. IsOfResolving n steps) (λ st lib k is. inl is)
    c.resolve.ensures.reads in
    let s2 = g.C.Cells.sight c.cites_not_below.new.cells in
    let kept = c.in-Some.kept.items in
    let resolved = of_proof s1 c.args.theorem.now.proof c.in_ok-kept.field-0 (Some c.in-Some.kept) c.in-Some.is c.in_ok-kept.ensures.ok in
    let ranks : ReadsWithin (IsRankOfSteps c.in-Some.kept.items) s1 s2 =
    subst (λ (ks : List StoredStep). ReadsWithin (IsRankOfSteps ks) s1 s2) c.as_slice.ensures.value c.cites_not_below.ensures.reads in
    let r2 : ReadsSince (OfTest s0 c.args.theorem.now.proof) s0 s0 s2 =
    since_then (OfTest s0 steps) r1 c.cites_not_below.ensures.looks.onward
    (since_cited (OfTest s0 steps) s0 s1 s1 s2 steps kept rank_cell c.resolve.ensures.looks (looks_refl s1)
    c.cites_not_below.ensures.looks.onward resolved.2 (λ st lib k is. inr (inr is)) ranks) in
    let s3 = g.C.Cells.sight c.cited_frames.new.cells in
    let statements : ReadsWithin (IsStatementOfSteps c.in-Some.kept.items) s2 s3 =
    subst (λ (ks : List StoredStep). ReadsWithin (IsStatementOfSteps ks) s2 s3) c.as_slice-2.ensures.value c.cited_frames.ensures.reads in
    since_then (OfTest s0 steps) r2 c.cited_frames.ensures.looks.onward
    (since_cited (OfTest s0 steps) s0 s1 s2 s3 steps kept statement_cell c.resolve.ensures.looks c.cites_not_below.ensures.looks
    c.cited_frames.ensures.looks.onward resolved.2 (λ st lib k is. inr (inl is)) statements)

pub returns-in-NoMemory-clause-reads : goal.returns-in-NoMemory-clause-reads
returns-in-NoMemory-clause-reads g c =
    let s0 = g.C.Cells.sight c.args.cells.now in
    let s1 = g.C.Cells.sight c.resolve.new.cells in
    let steps = c.args.theorem.now.proof in
    let r1 : ReadsSince (OfTest s0 c.args.theorem.now.proof) s0 s0 s1 =
    since_where (OfTest s0 steps) s0 s0 s1 (looks_refl s0) (λ n. IsOfResolving n steps) (λ st lib k is. inl is)
    c.resolve.ensures.reads in
    let s2 = g.C.Cells.sight c.cites_not_below.new.cells in
    let kept = c.in-Some.kept.items in
    let resolved = of_proof s1 c.args.theorem.now.proof c.in_ok-kept.field-0 (Some c.in-Some.kept) c.in-Some.is c.in_ok-kept.ensures.ok in
    let ranks : ReadsWithin (IsRankOfSteps c.in-Some.kept.items) s1 s2 =
    subst (λ (ks : List StoredStep). ReadsWithin (IsRankOfSteps ks) s1 s2) c.as_slice.ensures.value c.cites_not_below.ensures.reads in
    let r2 : ReadsSince (OfTest s0 c.args.theorem.now.proof) s0 s0 s2 =
    since_then (OfTest s0 steps) r1 c.cites_not_below.ensures.looks.onward
    (since_cited (OfTest s0 steps) s0 s1 s1 s2 steps kept rank_cell c.resolve.ensures.looks (looks_refl s1)
    c.cites_not_below.ensures.looks.onward resolved.2 (λ st lib k is. inr (inr is)) ranks) in
    let s3 = g.C.Cells.sight c.cited_frames.new.cells in
    let statements : ReadsWithin (IsStatementOfSteps c.in-Some.kept.items) s2 s3 =
    subst (λ (ks : List StoredStep). ReadsWithin (IsStatementOfSteps ks) s2 s3) c.as_slice-2.ensures.value c.cited_frames.ensures.reads in
    since_then (OfTest s0 steps) r2 c.cited_frames.ensures.looks.onward
    (since_cited (OfTest s0 steps) s0 s1 s2 s3 steps kept statement_cell c.resolve.ensures.looks c.cites_not_below.ensures.looks
    c.cited_frames.ensures.looks.onward resolved.2 (λ st lib k is. inr (inl is)) statements)

pub returns-clause-reads : goal.returns-clause-reads
returns-clause-reads g c =
    let s0 = g.C.Cells.sight c.args.cells.now in
    let s1 = g.C.Cells.sight c.resolve.new.cells in
    let steps = c.args.theorem.now.proof in
    let r1 : ReadsSince (OfTest s0 c.args.theorem.now.proof) s0 s0 s1 =
    since_where (OfTest s0 steps) s0 s0 s1 (looks_refl s0) (λ n. IsOfResolving n steps) (λ st lib k is. inl is)
    c.resolve.ensures.reads in
    let s2 = g.C.Cells.sight c.cites_not_below.new.cells in
    let kept = c.in-Some.kept.items in
    let resolved = of_proof s1 c.args.theorem.now.proof c.in_ok-kept.field-0 (Some c.in-Some.kept) c.in-Some.is c.in_ok-kept.ensures.ok in
    let ranks : ReadsWithin (IsRankOfSteps c.in-Some.kept.items) s1 s2 =
    subst (λ (ks : List StoredStep). ReadsWithin (IsRankOfSteps ks) s1 s2) c.as_slice.ensures.value c.cites_not_below.ensures.reads in
    let r2 : ReadsSince (OfTest s0 c.args.theorem.now.proof) s0 s0 s2 =
    since_then (OfTest s0 steps) r1 c.cites_not_below.ensures.looks.onward
    (since_cited (OfTest s0 steps) s0 s1 s1 s2 steps kept rank_cell c.resolve.ensures.looks (looks_refl s1)
    c.cites_not_below.ensures.looks.onward resolved.2 (λ st lib k is. inr (inr is)) ranks) in
    let s3 = g.C.Cells.sight c.cited_frames.new.cells in
    let statements : ReadsWithin (IsStatementOfSteps c.in-Some.kept.items) s2 s3 =
    subst (λ (ks : List StoredStep). ReadsWithin (IsStatementOfSteps ks) s2 s3) c.as_slice-2.ensures.value c.cited_frames.ensures.reads in
    since_then (OfTest s0 steps) r2 c.cited_frames.ensures.looks.onward
    (since_cited (OfTest s0 steps) s0 s1 s2 s3 steps kept statement_cell c.resolve.ensures.looks c.cites_not_below.ensures.looks
    c.cited_frames.ensures.looks.onward resolved.2 (λ st lib k is. inr (inl is)) statements)

pub returns-in-Ok-clause-reads : goal.returns-in-Ok-clause-reads
returns-in-Ok-clause-reads g c =
    let s0 = g.C.Cells.sight c.args.cells.now in
    let s1 = g.C.Cells.sight c.resolve.new.cells in
    let steps = c.args.theorem.now.proof in
    let r1 : ReadsSince (OfTest s0 c.args.theorem.now.proof) s0 s0 s1 =
    since_where (OfTest s0 steps) s0 s0 s1 (looks_refl s0) (λ n. IsOfResolving n steps) (λ st lib k is. inl is)
    c.resolve.ensures.reads in
    let s2 = g.C.Cells.sight c.cites_not_below.new.cells in
    let kept = c.in-Some.kept.items in
    let resolved = of_proof s1 c.args.theorem.now.proof c.in_ok-kept.field-0 (Some c.in-Some.kept) c.in-Some.is c.in_ok-kept.ensures.ok in
    let ranks : ReadsWithin (IsRankOfSteps c.in-Some.kept.items) s1 s2 =
    subst (λ (ks : List StoredStep). ReadsWithin (IsRankOfSteps ks) s1 s2) c.as_slice.ensures.value c.cites_not_below.ensures.reads in
    let r2 : ReadsSince (OfTest s0 c.args.theorem.now.proof) s0 s0 s2 =
    since_then (OfTest s0 steps) r1 c.cites_not_below.ensures.looks.onward
    (since_cited (OfTest s0 steps) s0 s1 s1 s2 steps kept rank_cell c.resolve.ensures.looks (looks_refl s1)
    c.cites_not_below.ensures.looks.onward resolved.2 (λ st lib k is. inr (inr is)) ranks) in
    let s3 = g.C.Cells.sight c.cited_frames.new.cells in
    let statements : ReadsWithin (IsStatementOfSteps c.in-Some.kept.items) s2 s3 =
    subst (λ (ks : List StoredStep). ReadsWithin (IsStatementOfSteps ks) s2 s3) c.as_slice-2.ensures.value c.cited_frames.ensures.reads in
    since_then (OfTest s0 steps) r2 c.cited_frames.ensures.looks.onward
    (since_cited (OfTest s0 steps) s0 s1 s2 s3 steps kept statement_cell c.resolve.ensures.looks c.cites_not_below.ensures.looks
    c.cited_frames.ensures.looks.onward resolved.2 (λ st lib k is. inr (inl is)) statements)

pub returns-in_err-kept-clause-ok : goal.returns-in_err-kept-clause-ok
returns-in_err-kept-clause-ok g c = IfOk-from_err _ _ c.from_residual.ensures.0

pub returns-in_err-cites_not_below-clause-ok : goal.returns-in_err-cites_not_below-clause-ok
returns-in_err-cites_not_below-clause-ok g c = IfOk-from_err _ _ c.from_residual-in_err-cites_not_below.ensures.0

pub returns-in_err-frames-clause-ok : goal.returns-in_err-frames-clause-ok
returns-in_err-frames-clause-ok g c = IfOk-from_err _ _ c.from_residual-in_err-frames.ensures.0

pub returns-in_default-clause-ok : goal.returns-in_default-clause-ok
returns-in_default-clause-ok g c = tt

pub returns-then-branch-clause-ok : goal.returns-then-branch-clause-ok
returns-then-branch-clause-ok g c = tt

pub returns-in-NoMemory-clause-ok : goal.returns-in-NoMemory-clause-ok
returns-in-NoMemory-clause-ok g c = tt

pub returns-clause-ok : goal.returns-clause-ok
returns-clause-ok g c = tt

pub returns-in-Ok-clause-err : goal.returns-in-Ok-clause-err
returns-in-Ok-clause-err g c = tt

pub returns-in_err-kept-clause-looks : goal.returns-in_err-kept-clause-looks
returns-in_err-kept-clause-looks g c = c.resolve.ensures.looks

pub returns-in_default-clause-looks : goal.returns-in_default-clause-looks
returns-in_default-clause-looks g c = c.resolve.ensures.looks
