use Rattle.std.proofs.Common.{◌≡◌, List, length, sym, ap, subst, ◌∙◌, inl, inr, arith}
use Rattle.library.specs.declared.command.Command.TheVariants as command
use Rattle.library.specs.declared.reason.Reason.TheVariants as reason
use Rattle.mmsyntax.specs.declared.statement.Assertion.{Assertion}
use Rattle.bodystore.specs.declared.stored.StoredStep.{StoredStep}
use Rattle.bodystore.specs.Bodies.{statement_of, proof_body}
use Rattle.cells.specs.Lookups.{AreWithin}
use Rattle.cells.proofs.Sights.{onward_trans, looks_trans}
use Rattle.cells.proofs.ReadBack.{held_later}
use Rattle.cells.specs.Lookups.{ForEach}
use Rattle.cells.specs.Shows.{AreStoredAs}
use Rattle.mmsyntax.specs.declared.statement.Step.{Step}
use Rattle.groundwork.specs.Changes.{ReprovesAt}
use Rattle.groundwork.specs.Touches.{ReprovesWithin}
use Rattle.groundwork.proofs.Touching.{keeps_to_since}
use Rattle.reproofs.proofs.ReproveReads.{reprove_keeps}
use Rattle.cells.proofs.Resolving.{finds_after}
use Rattle.groundwork.proofs.Refusing.{of_none, refused, refused_later, answers_refused, answers_tested, answers_unknown}
use Rattle.reproofs.proofs.Reproved.{retitled, axiom_refused, reprove_refused, reproved}
use Rattle.groundwork.proofs.Taking.{stored_taken}
use Rattle.cells.specs.Slots.{statement_cell, rank_cell}
use Rattle.groundwork.specs.Touches.{Touches}
use Rattle.groundwork.specs.Footprints.{IsOfProofTest, ReadsFor, TestReads, ReprovesReading}
use Rattle.groundwork.proofs.Since.{OfCommand, since_then, since_before, first_look, then_cells}
use Rattle.reproofs.proofs.ReproveReads.{reprove_reads}
use Rattle.reproofs.proofs.reproving.reprove.Goals as goal

pub returns-in_err-slot-clause-answers : goal.returns-in_err-slot-clause-answers
returns-in_err-slot-clause-answers g c =
    let s0 = g.C.Cells.sight c.args.cells.now in
    let s1 = g.C.Cells.sight c.known_slot.new.cells in
    let label = c.args.label.now in
    let x = command.Reprove c.args.label.now c.args.steps.now in
    answers_unknown s0 s1 x label c.from_residual.result c.in_err-slot.field-0.0 c.from_residual.ensures.1 c.in_err-slot.ensures.err
    (λ none. refused s0 s1 x reason.UnknownLabel c.known_slot.ensures.looks (λ st lib v. of_none lib label _ (none st lib v)))

pub returns-in_err-statement-clause-onward : goal.returns-in_err-statement-clause-onward
returns-in_err-statement-clause-onward g c = onward_trans _ _ _ c.known_slot.ensures.looks.onward c.statement.ensures.looks.onward

pub returns-in-Axiom-clause-onward : goal.returns-in-Axiom-clause-onward
returns-in-Axiom-clause-onward g c = onward_trans _ _ _ c.known_slot.ensures.looks.onward c.statement.ensures.looks.onward

pub returns-in-Axiom-clause-answers : goal.returns-in-Axiom-clause-answers
returns-in-Axiom-clause-answers g c =
    let s0 = g.C.Cells.sight c.args.cells.now in
    let s1 = g.C.Cells.sight c.known_slot.new.cells in
    let s2 = g.C.Cells.sight c.statement.new.cells in
    let label = c.args.label.now in
    let steps = c.args.steps.now in
    let finds = c.in_ok-slot.ensures.ok in
    answers_refused s0 s2 (command.Reprove label steps) reason.NotATheorem c.into.result c.into.ensures
    (refused_later s0 s2 (command.Reprove label steps) reason.NotATheorem
    (looks_trans _ _ _ c.known_slot.ensures.looks c.statement.ensures.looks)
    (axiom_refused s2 c.in_ok-slot.slot label c.in_ok-statement.statement c.in_ok-statement.ensures.ok
    (finds_after s1 s2 label c.in_ok-slot.slot c.statement.ensures.looks finds).1 steps c.in-Axiom.is))

pub returns-in_err-rank-clause-onward : goal.returns-in_err-rank-clause-onward
returns-in_err-rank-clause-onward g c =
    onward_trans _ _ _ c.known_slot.ensures.looks.onward (onward_trans _ _ _ c.statement.ensures.looks.onward c.rank.ensures.looks.onward)

pub returns-in_err-proof-clause-onward : goal.returns-in_err-proof-clause-onward
returns-in_err-proof-clause-onward g c =
    onward_trans _ _ _ c.known_slot.ensures.looks.onward (onward_trans _ _ _ c.statement.ensures.looks.onward c.rank.ensures.looks.onward)

pub returns-in_err-copy-clause-onward : goal.returns-in_err-copy-clause-onward
returns-in_err-copy-clause-onward g c =
    onward_trans _ _ _ c.known_slot.ensures.looks.onward (onward_trans _ _ _ c.statement.ensures.looks.onward c.rank.ensures.looks.onward)

pub returns-in_err-kept-clause-onward : goal.returns-in_err-kept-clause-onward
returns-in_err-kept-clause-onward g c =
    onward_trans _ _ _ c.known_slot.ensures.looks.onward (onward_trans _ _ _ c.statement.ensures.looks.onward
    (onward_trans _ _ _ c.rank.ensures.looks.onward c.test_proof.ensures.looks.onward))

pub returns-in_err-kept-clause-answers : goal.returns-in_err-kept-clause-answers
returns-in_err-kept-clause-answers g c =
    let s0 = g.C.Cells.sight c.args.cells.now in
    let s1 = g.C.Cells.sight c.known_slot.new.cells in
    let s2 = g.C.Cells.sight c.statement.new.cells in
    let s3 = g.C.Cells.sight c.rank.new.cells in
    let s4 = g.C.Cells.sight c.test_proof.new.cells in
    let i = c.in_ok-slot.slot in
    let label = c.args.label.now in
    let steps = c.args.steps.now in
    let rank = c.in_ok-rank.rank in
    let made = c.in_ok-statement.statement in
    let a = c.into_assertion-theorem.result in
    let later = looks_trans _ _ _ c.rank.ensures.looks c.test_proof.ensures.looks in
    let looks = looks_trans _ _ _ c.known_slot.ensures.looks (looks_trans _ _ _ c.statement.ensures.looks later) in
    let finds = c.in_ok-slot.ensures.ok in
    let here = (finds_after s1 s4 label i (looks_trans _ _ _ c.statement.ensures.looks later) finds).1 in
    let stated = held_later s2 s4 i (λ st lib e. made ≡ statement_of e.assertion) later c.in_ok-statement.ensures.ok in
    let ranked = held_later s3 s4 i (λ st lib e. rank ≡ e.rank) c.test_proof.ensures.looks c.in_ok-rank.ensures.ok in
    let theorem = c.in_default.is in
    let is = c.into_assertion-theorem.ensures
    ∙ retitled c.in_ok-statement.statement c.in_ok-copy.field-0 c.args.label.now c.in_ok-proof.proof c.args.steps.now c.in_ok-copy.ensures
    c.in_ok-proof.ensures in
    answers_tested s0 s4 (command.Reprove label steps) rank a c.from_residual-in_err-kept.result c.in_err-kept.field-0.0
    c.from_residual-in_err-kept.ensures.1 c.in_err-kept.ensures.err (λ r fails.
    refused_later s0 s4 (command.Reprove label steps) r looks
    (reprove_refused s4 i label made stated here steps theorem rank ranked a is r fails))

pub put_steps-requires-clause-within : goal.put_steps-requires-clause-within
put_steps-requires-clause-within g c =
    subst (AreWithin (g.C.Cells.sight c.test_proof.new.cells).setting.slots) (sym c.as_slice.ensures.value) c.in_ok-kept.ensures.ok.within

pub returns-in_err-put_steps-clause-onward : goal.returns-in_err-put_steps-clause-onward
returns-in_err-put_steps-clause-onward g c =
    onward_trans _ _ _ c.known_slot.ensures.looks.onward (onward_trans _ _ _ c.statement.ensures.looks.onward
    (onward_trans _ _ _ c.rank.ensures.looks.onward (onward_trans _ _ _ c.test_proof.ensures.looks.onward c.put_steps.ensures.onward)))

pub returns-clause-onward : goal.returns-clause-onward
returns-clause-onward g c =
    onward_trans _ _ _ c.known_slot.ensures.looks.onward (onward_trans _ _ _ c.statement.ensures.looks.onward
    (onward_trans _ _ _ c.rank.ensures.looks.onward (onward_trans _ _ _ c.test_proof.ensures.looks.onward c.put_steps.ensures.onward)))

pub returns-clause-answers : goal.returns-clause-answers
returns-clause-answers g c =
    let s0 = g.C.Cells.sight c.args.cells.now in
    let s1 = g.C.Cells.sight c.known_slot.new.cells in
    let s2 = g.C.Cells.sight c.statement.new.cells in
    let s3 = g.C.Cells.sight c.rank.new.cells in
    let s4 = g.C.Cells.sight c.test_proof.new.cells in
    let i = c.in_ok-slot.slot in
    let label = c.args.label.now in
    let steps = c.args.steps.now in
    let rank = c.in_ok-rank.rank in
    let made = c.in_ok-statement.statement in
    let a = c.into_assertion-theorem.result in
    let later = looks_trans _ _ _ c.rank.ensures.looks c.test_proof.ensures.looks in
    let looks = looks_trans _ _ _ c.known_slot.ensures.looks (looks_trans _ _ _ c.statement.ensures.looks later) in
    let finds = c.in_ok-slot.ensures.ok in
    let here = (finds_after s1 s4 label i (looks_trans _ _ _ c.statement.ensures.looks later) finds).1 in
    let stated = held_later s2 s4 i (λ st lib e. made ≡ statement_of e.assertion) later c.in_ok-statement.ensures.ok in
    let ranked = held_later s3 s4 i (λ st lib e. rank ≡ e.rank) c.test_proof.ensures.looks c.in_ok-rank.ensures.ok in
    let theorem = c.in_default.is in
    let is = c.into_assertion-theorem.ensures
    ∙ retitled c.in_ok-statement.statement c.in_ok-copy.field-0 c.args.label.now c.in_ok-proof.proof c.args.steps.now c.in_ok-copy.ensures
    c.in_ok-proof.ensures in
    let s5 = g.C.Cells.sight c.put_steps.new.cells in
    let kept = c.in_ok-kept.kept.items in
    let reproves = subst (ReprovesAt s4 s5 i label) c.as_slice.ensures.value (c.in_ok-put_steps.ensures.ok label) in
    reproved s4 i label made stated here steps theorem rank ranked a is s0 s5 kept looks c.put_steps.ensures.onward c.in_ok-kept.ensures.ok
    reproves c.in_ok-put_steps.ensures.written

pub returns-in_err-put_steps-clause-taken : goal.returns-in_err-put_steps-clause-taken
returns-in_err-put_steps-clause-taken g c st lib m v =
    let looks = looks_trans _ _ _ c.known_slot.ensures.looks (looks_trans _ _ _ c.statement.ensures.looks
    (looks_trans _ _ _ c.rank.ensures.looks c.test_proof.ensures.looks)) in
    let a = c.into_assertion-theorem.result in
    let is = c.into_assertion-theorem.ensures
    ∙ retitled c.in_ok-statement.statement c.in_ok-copy.field-0 c.args.label.now c.in_ok-proof.proof c.args.steps.now c.in_ok-copy.ensures
    c.in_ok-proof.ensures in
    let long = stored_taken (g.C.Cells.sight c.args.cells.now) (g.C.Cells.sight c.test_proof.new.cells)
    (g.C.Cells.sight c.put_steps.new.cells)
    looks c.put_steps.ensures.onward a.proof c.in_ok-kept.kept.items c.in_ok-kept.ensures.ok.stored st lib m v in
    let steps = ap (λ (x : Assertion). length x.proof) is in
    let same = ap (λ (ks : List StoredStep). length (proof_body ks)) c.as_slice.ensures.value in
    omega (arith, long, steps, same, c.put_steps.ensures.taken, looks.taken)

pub returns-clause-taken : goal.returns-clause-taken
returns-clause-taken g c st lib m v =
    let looks = looks_trans _ _ _ c.known_slot.ensures.looks (looks_trans _ _ _ c.statement.ensures.looks
    (looks_trans _ _ _ c.rank.ensures.looks c.test_proof.ensures.looks)) in
    let a = c.into_assertion-theorem.result in
    let is = c.into_assertion-theorem.ensures
    ∙ retitled c.in_ok-statement.statement c.in_ok-copy.field-0 c.args.label.now c.in_ok-proof.proof c.args.steps.now c.in_ok-copy.ensures
    c.in_ok-proof.ensures in
    let long = stored_taken (g.C.Cells.sight c.args.cells.now) (g.C.Cells.sight c.test_proof.new.cells)
    (g.C.Cells.sight c.put_steps.new.cells)
    looks c.put_steps.ensures.onward a.proof c.in_ok-kept.kept.items c.in_ok-kept.ensures.ok.stored st lib m v in
    let steps = ap (λ (x : Assertion). length x.proof) is in
    let same = ap (λ (ks : List StoredStep). length (proof_body ks)) c.as_slice.ensures.value in
    omega (arith, long, steps, same, c.put_steps.ensures.taken, looks.taken)

pub returns-clause-keeps : goal.returns-clause-keeps
returns-clause-keeps g c =
    let s0 = g.C.Cells.sight c.args.cells.now in
    let s1 = g.C.Cells.sight c.known_slot.new.cells in
    let s4 = g.C.Cells.sight c.test_proof.new.cells in
    let s5 = g.C.Cells.sight c.put_steps.new.cells in
    let i = c.in_ok-slot.slot in
    let label = c.args.label.now in
    let steps = c.args.steps.now in
    let kept = c.in_ok-kept.kept.items in
    let since = looks_trans _ _ _ c.statement.ensures.looks (looks_trans _ _ _ c.rank.ensures.looks c.test_proof.ensures.looks) in
    let finds = c.in_ok-slot.ensures.ok in
    let is = c.into_assertion-theorem.ensures
    ∙ retitled c.in_ok-statement.statement c.in_ok-copy.field-0 c.args.label.now c.in_ok-proof.proof c.args.steps.now c.in_ok-copy.ensures
    c.in_ok-proof.ensures in
    let stored = subst (λ (xs : List Step). ForEach s4 (λ st lib. AreStoredAs s4.setting.slots st xs kept))
    (ap (λ (a : Assertion). a.proof) is) c.in_ok-kept.ensures.ok.stored in
    keeps_to_since s0 s4 s5 (command.Reprove label steps) (looks_trans _ _ _ c.known_slot.ensures.looks since) c.put_steps.ensures.onward
    (reprove_keeps s4 s5 i label steps kept (finds_after s1 s4 label i since finds).1 stored
    (subst (ReprovesWithin s4 s5 i label) c.as_slice.ensures.value (c.in_ok-put_steps.ensures.keeps label)))

pub returns-in_err-slot-clause-reads : goal.returns-in_err-slot-clause-reads
returns-in_err-slot-clause-reads g c =
    let s0 = g.C.Cells.sight c.args.cells.now in
    let s1 = g.C.Cells.sight c.known_slot.new.cells in
    let label = c.args.label.now in
    let steps = c.args.steps.now in
    let x = command.Reprove label steps in
    let r1 : ReadsFor s0 s1 (command.Reprove c.args.label.now c.args.steps.now) =
    first_look s0 s1 x label (λ st lib k is. inl is) c.known_slot.ensures.reads in
    r1

pub returns-in_err-statement-clause-reads : goal.returns-in_err-statement-clause-reads
returns-in_err-statement-clause-reads g c =
    let s0 = g.C.Cells.sight c.args.cells.now in
    let s1 = g.C.Cells.sight c.known_slot.new.cells in
    let label = c.args.label.now in
    let steps = c.args.steps.now in
    let x = command.Reprove label steps in
    let r1 : ReadsFor s0 s1 (command.Reprove c.args.label.now c.args.steps.now) =
    first_look s0 s1 x label (λ st lib k is. inl is) c.known_slot.ensures.reads in
    let s2 = g.C.Cells.sight c.statement.new.cells in
    let i = c.in_ok-slot.slot in
    let finds = c.in_ok-slot.ensures.ok in
    let r2 : ReadsFor s0 s2 (command.Reprove c.args.label.now c.args.steps.now) =
    then_cells s0 s1 s2 x label i c.known_slot.ensures.looks finds r1 c.statement.ensures.looks.onward (λ k. k ≡ statement_cell i)
    (λ st lib at k is. inr (inl (i, at, inl is))) c.statement.ensures.reads in
    r2

pub returns-in-Axiom-clause-reads : goal.returns-in-Axiom-clause-reads
returns-in-Axiom-clause-reads g c =
    let s0 = g.C.Cells.sight c.args.cells.now in
    let s1 = g.C.Cells.sight c.known_slot.new.cells in
    let label = c.args.label.now in
    let steps = c.args.steps.now in
    let x = command.Reprove label steps in
    let r1 : ReadsFor s0 s1 (command.Reprove c.args.label.now c.args.steps.now) =
    first_look s0 s1 x label (λ st lib k is. inl is) c.known_slot.ensures.reads in
    let s2 = g.C.Cells.sight c.statement.new.cells in
    let i = c.in_ok-slot.slot in
    let finds = c.in_ok-slot.ensures.ok in
    let r2 : ReadsFor s0 s2 (command.Reprove c.args.label.now c.args.steps.now) =
    then_cells s0 s1 s2 x label i c.known_slot.ensures.looks finds r1 c.statement.ensures.looks.onward (λ k. k ≡ statement_cell i)
    (λ st lib at k is. inr (inl (i, at, inl is))) c.statement.ensures.reads in
    r2

pub returns-in_err-rank-clause-reads : goal.returns-in_err-rank-clause-reads
returns-in_err-rank-clause-reads g c =
    let s0 = g.C.Cells.sight c.args.cells.now in
    let s1 = g.C.Cells.sight c.known_slot.new.cells in
    let label = c.args.label.now in
    let steps = c.args.steps.now in
    let x = command.Reprove label steps in
    let r1 : ReadsFor s0 s1 (command.Reprove c.args.label.now c.args.steps.now) =
    first_look s0 s1 x label (λ st lib k is. inl is) c.known_slot.ensures.reads in
    let s2 = g.C.Cells.sight c.statement.new.cells in
    let i = c.in_ok-slot.slot in
    let finds = c.in_ok-slot.ensures.ok in
    let r2 : ReadsFor s0 s2 (command.Reprove c.args.label.now c.args.steps.now) =
    then_cells s0 s1 s2 x label i c.known_slot.ensures.looks finds r1 c.statement.ensures.looks.onward (λ k. k ≡ statement_cell i)
    (λ st lib at k is. inr (inl (i, at, inl is))) c.statement.ensures.reads in
    let s3 = g.C.Cells.sight c.rank.new.cells in
    let l2 = looks_trans _ _ _ c.known_slot.ensures.looks c.statement.ensures.looks in
    let r3 : ReadsFor s0 s3 (command.Reprove c.args.label.now c.args.steps.now) =
    then_cells s0 s2 s3 x label i l2 (finds_after s1 s2 label i c.statement.ensures.looks finds) r2 c.rank.ensures.looks.onward
    (λ k. k ≡ rank_cell i) (λ st lib at k is. inr (inl (i, at, inr is))) c.rank.ensures.reads in
    r3

pub returns-in_err-proof-clause-reads : goal.returns-in_err-proof-clause-reads
returns-in_err-proof-clause-reads g c =
    let s0 = g.C.Cells.sight c.args.cells.now in
    let s1 = g.C.Cells.sight c.known_slot.new.cells in
    let label = c.args.label.now in
    let steps = c.args.steps.now in
    let x = command.Reprove label steps in
    let r1 : ReadsFor s0 s1 (command.Reprove c.args.label.now c.args.steps.now) =
    first_look s0 s1 x label (λ st lib k is. inl is) c.known_slot.ensures.reads in
    let s2 = g.C.Cells.sight c.statement.new.cells in
    let i = c.in_ok-slot.slot in
    let finds = c.in_ok-slot.ensures.ok in
    let r2 : ReadsFor s0 s2 (command.Reprove c.args.label.now c.args.steps.now) =
    then_cells s0 s1 s2 x label i c.known_slot.ensures.looks finds r1 c.statement.ensures.looks.onward (λ k. k ≡ statement_cell i)
    (λ st lib at k is. inr (inl (i, at, inl is))) c.statement.ensures.reads in
    let s3 = g.C.Cells.sight c.rank.new.cells in
    let l2 = looks_trans _ _ _ c.known_slot.ensures.looks c.statement.ensures.looks in
    let r3 : ReadsFor s0 s3 (command.Reprove c.args.label.now c.args.steps.now) =
    then_cells s0 s2 s3 x label i l2 (finds_after s1 s2 label i c.statement.ensures.looks finds) r2 c.rank.ensures.looks.onward
    (λ k. k ≡ rank_cell i) (λ st lib at k is. inr (inl (i, at, inr is))) c.rank.ensures.reads in
    r3

pub returns-in_err-copy-clause-reads : goal.returns-in_err-copy-clause-reads
returns-in_err-copy-clause-reads g c =
    let s0 = g.C.Cells.sight c.args.cells.now in
    let s1 = g.C.Cells.sight c.known_slot.new.cells in
    let label = c.args.label.now in
    let steps = c.args.steps.now in
    let x = command.Reprove label steps in
    let r1 : ReadsFor s0 s1 (command.Reprove c.args.label.now c.args.steps.now) =
    first_look s0 s1 x label (λ st lib k is. inl is) c.known_slot.ensures.reads in
    let s2 = g.C.Cells.sight c.statement.new.cells in
    let i = c.in_ok-slot.slot in
    let finds = c.in_ok-slot.ensures.ok in
    let r2 : ReadsFor s0 s2 (command.Reprove c.args.label.now c.args.steps.now) =
    then_cells s0 s1 s2 x label i c.known_slot.ensures.looks finds r1 c.statement.ensures.looks.onward (λ k. k ≡ statement_cell i)
    (λ st lib at k is. inr (inl (i, at, inl is))) c.statement.ensures.reads in
    let s3 = g.C.Cells.sight c.rank.new.cells in
    let l2 = looks_trans _ _ _ c.known_slot.ensures.looks c.statement.ensures.looks in
    let r3 : ReadsFor s0 s3 (command.Reprove c.args.label.now c.args.steps.now) =
    then_cells s0 s2 s3 x label i l2 (finds_after s1 s2 label i c.statement.ensures.looks finds) r2 c.rank.ensures.looks.onward
    (λ k. k ≡ rank_cell i) (λ st lib at k is. inr (inl (i, at, inr is))) c.rank.ensures.reads in
    r3

pub returns-in_err-kept-clause-reads : goal.returns-in_err-kept-clause-reads
returns-in_err-kept-clause-reads g c =
    let s0 = g.C.Cells.sight c.args.cells.now in
    let s1 = g.C.Cells.sight c.known_slot.new.cells in
    let label = c.args.label.now in
    let steps = c.args.steps.now in
    let x = command.Reprove label steps in
    let r1 : ReadsFor s0 s1 (command.Reprove c.args.label.now c.args.steps.now) =
    first_look s0 s1 x label (λ st lib k is. inl is) c.known_slot.ensures.reads in
    let s2 = g.C.Cells.sight c.statement.new.cells in
    let i = c.in_ok-slot.slot in
    let finds = c.in_ok-slot.ensures.ok in
    let r2 : ReadsFor s0 s2 (command.Reprove c.args.label.now c.args.steps.now) =
    then_cells s0 s1 s2 x label i c.known_slot.ensures.looks finds r1 c.statement.ensures.looks.onward (λ k. k ≡ statement_cell i)
    (λ st lib at k is. inr (inl (i, at, inl is))) c.statement.ensures.reads in
    let s3 = g.C.Cells.sight c.rank.new.cells in
    let l2 = looks_trans _ _ _ c.known_slot.ensures.looks c.statement.ensures.looks in
    let r3 : ReadsFor s0 s3 (command.Reprove c.args.label.now c.args.steps.now) =
    then_cells s0 s2 s3 x label i l2 (finds_after s1 s2 label i c.statement.ensures.looks finds) r2 c.rank.ensures.looks.onward
    (λ k. k ≡ rank_cell i) (λ st lib at k is. inr (inl (i, at, inr is))) c.rank.ensures.reads in
    let s4 = g.C.Cells.sight c.test_proof.new.cells in
    let l3 = looks_trans _ _ _ l2 c.rank.ensures.looks in
    let is = c.into_assertion-theorem.ensures
    ∙ retitled c.in_ok-statement.statement c.in_ok-copy.field-0 c.args.label.now c.in_ok-proof.proof c.args.steps.now c.in_ok-copy.ensures
    c.in_ok-proof.ensures in
    let tests : TestReads s3 s4 c.args.steps.now =
    subst (λ (xs : List Step). TestReads s3 s4 xs) (ap (λ (a : Assertion). a.proof) is) c.test_proof.ensures.reads in
    let r4 : ReadsFor s0 s4 (command.Reprove c.args.label.now c.args.steps.now) =
    since_then (OfCommand s0 x) r3 c.test_proof.ensures.looks.onward
    (since_before (OfCommand s0 x) s0 s3 s4 l3 (λ n st lib k. IsOfProofTest n st lib steps k) (λ st lib k it. inr (inr (inl it)))
    c.test_proof.ensures.looks.onward tests) in
    r4

pub returns-in_err-put_steps-clause-reads : goal.returns-in_err-put_steps-clause-reads
returns-in_err-put_steps-clause-reads g c =
    let s0 = g.C.Cells.sight c.args.cells.now in
    let s1 = g.C.Cells.sight c.known_slot.new.cells in
    let label = c.args.label.now in
    let steps = c.args.steps.now in
    let x = command.Reprove label steps in
    let r1 : ReadsFor s0 s1 (command.Reprove c.args.label.now c.args.steps.now) =
    first_look s0 s1 x label (λ st lib k is. inl is) c.known_slot.ensures.reads in
    let s2 = g.C.Cells.sight c.statement.new.cells in
    let i = c.in_ok-slot.slot in
    let finds = c.in_ok-slot.ensures.ok in
    let r2 : ReadsFor s0 s2 (command.Reprove c.args.label.now c.args.steps.now) =
    then_cells s0 s1 s2 x label i c.known_slot.ensures.looks finds r1 c.statement.ensures.looks.onward (λ k. k ≡ statement_cell i)
    (λ st lib at k is. inr (inl (i, at, inl is))) c.statement.ensures.reads in
    let s3 = g.C.Cells.sight c.rank.new.cells in
    let l2 = looks_trans _ _ _ c.known_slot.ensures.looks c.statement.ensures.looks in
    let r3 : ReadsFor s0 s3 (command.Reprove c.args.label.now c.args.steps.now) =
    then_cells s0 s2 s3 x label i l2 (finds_after s1 s2 label i c.statement.ensures.looks finds) r2 c.rank.ensures.looks.onward
    (λ k. k ≡ rank_cell i) (λ st lib at k is. inr (inl (i, at, inr is))) c.rank.ensures.reads in
    let s4 = g.C.Cells.sight c.test_proof.new.cells in
    let l3 = looks_trans _ _ _ l2 c.rank.ensures.looks in
    let is = c.into_assertion-theorem.ensures
    ∙ retitled c.in_ok-statement.statement c.in_ok-copy.field-0 c.args.label.now c.in_ok-proof.proof c.args.steps.now c.in_ok-copy.ensures
    c.in_ok-proof.ensures in
    let tests : TestReads s3 s4 c.args.steps.now =
    subst (λ (xs : List Step). TestReads s3 s4 xs) (ap (λ (a : Assertion). a.proof) is) c.test_proof.ensures.reads in
    let r4 : ReadsFor s0 s4 (command.Reprove c.args.label.now c.args.steps.now) =
    since_then (OfCommand s0 x) r3 c.test_proof.ensures.looks.onward
    (since_before (OfCommand s0 x) s0 s3 s4 l3 (λ n st lib k. IsOfProofTest n st lib steps k) (λ st lib k it. inr (inr (inl it)))
    c.test_proof.ensures.looks.onward tests) in
    let s5 = g.C.Cells.sight c.put_steps.new.cells in
    let kept = c.in_ok-kept.kept.items in
    let since = looks_trans _ _ _ c.statement.ensures.looks (looks_trans _ _ _ c.rank.ensures.looks c.test_proof.ensures.looks) in
    let stored = subst (λ (xs : List Step). ForEach s4 (λ st lib. AreStoredAs s4.setting.slots st xs kept))
    (ap (λ (a : Assertion). a.proof) is) c.in_ok-kept.ensures.ok.stored in
    let reads = reprove_reads s4 s5 i label steps kept (finds_after s1 s4 label i since finds).1 stored
    (subst (ReprovesReading s4 s5 i label) c.as_slice.ensures.value (c.put_steps.ensures.reads label)) in
    since_then (OfCommand s0 x) r4 c.put_steps.ensures.onward
    (since_before (OfCommand s0 x) s0 s4 s5 (looks_trans _ _ _ l3 c.test_proof.ensures.looks)
    (λ n st lib k. Touches n st lib (command.Reprove c.args.label.now c.args.steps.now) k)
    (λ st lib k it. inr (inr (inr it))) c.put_steps.ensures.onward reads)

pub returns-clause-reads : goal.returns-clause-reads
returns-clause-reads g c =
    let s0 = g.C.Cells.sight c.args.cells.now in
    let s1 = g.C.Cells.sight c.known_slot.new.cells in
    let label = c.args.label.now in
    let steps = c.args.steps.now in
    let x = command.Reprove label steps in
    let r1 : ReadsFor s0 s1 (command.Reprove c.args.label.now c.args.steps.now) =
    first_look s0 s1 x label (λ st lib k is. inl is) c.known_slot.ensures.reads in
    let s2 = g.C.Cells.sight c.statement.new.cells in
    let i = c.in_ok-slot.slot in
    let finds = c.in_ok-slot.ensures.ok in
    let r2 : ReadsFor s0 s2 (command.Reprove c.args.label.now c.args.steps.now) =
    then_cells s0 s1 s2 x label i c.known_slot.ensures.looks finds r1 c.statement.ensures.looks.onward (λ k. k ≡ statement_cell i)
    (λ st lib at k is. inr (inl (i, at, inl is))) c.statement.ensures.reads in
    let s3 = g.C.Cells.sight c.rank.new.cells in
    let l2 = looks_trans _ _ _ c.known_slot.ensures.looks c.statement.ensures.looks in
    let r3 : ReadsFor s0 s3 (command.Reprove c.args.label.now c.args.steps.now) =
    then_cells s0 s2 s3 x label i l2 (finds_after s1 s2 label i c.statement.ensures.looks finds) r2 c.rank.ensures.looks.onward
    (λ k. k ≡ rank_cell i) (λ st lib at k is. inr (inl (i, at, inr is))) c.rank.ensures.reads in
    let s4 = g.C.Cells.sight c.test_proof.new.cells in
    let l3 = looks_trans _ _ _ l2 c.rank.ensures.looks in
    let is = c.into_assertion-theorem.ensures
    ∙ retitled c.in_ok-statement.statement c.in_ok-copy.field-0 c.args.label.now c.in_ok-proof.proof c.args.steps.now c.in_ok-copy.ensures
    c.in_ok-proof.ensures in
    let tests : TestReads s3 s4 c.args.steps.now =
    subst (λ (xs : List Step). TestReads s3 s4 xs) (ap (λ (a : Assertion). a.proof) is) c.test_proof.ensures.reads in
    let r4 : ReadsFor s0 s4 (command.Reprove c.args.label.now c.args.steps.now) =
    since_then (OfCommand s0 x) r3 c.test_proof.ensures.looks.onward
    (since_before (OfCommand s0 x) s0 s3 s4 l3 (λ n st lib k. IsOfProofTest n st lib steps k) (λ st lib k it. inr (inr (inl it)))
    c.test_proof.ensures.looks.onward tests) in
    let s5 = g.C.Cells.sight c.put_steps.new.cells in
    let kept = c.in_ok-kept.kept.items in
    let since = looks_trans _ _ _ c.statement.ensures.looks (looks_trans _ _ _ c.rank.ensures.looks c.test_proof.ensures.looks) in
    let stored = subst (λ (xs : List Step). ForEach s4 (λ st lib. AreStoredAs s4.setting.slots st xs kept))
    (ap (λ (a : Assertion). a.proof) is) c.in_ok-kept.ensures.ok.stored in
    let reads = reprove_reads s4 s5 i label steps kept (finds_after s1 s4 label i since finds).1 stored
    (subst (ReprovesReading s4 s5 i label) c.as_slice.ensures.value (c.put_steps.ensures.reads label)) in
    since_then (OfCommand s0 x) r4 c.put_steps.ensures.onward
    (since_before (OfCommand s0 x) s0 s4 s5 (looks_trans _ _ _ l3 c.test_proof.ensures.looks)
    (λ n st lib k. Touches n st lib (command.Reprove c.args.label.now c.args.steps.now) k)
    (λ st lib k it. inr (inr (inr it))) c.put_steps.ensures.onward reads)
