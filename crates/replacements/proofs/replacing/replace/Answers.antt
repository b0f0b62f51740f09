use Rattle.std.proofs.Common.{◌≡◌, ◌≢◌, inl, inr, true, false, List, [], Vec, length, map, arith, sym, ap, subst, ◌∙◌}
use Rattle.std.specs.Prelude.{◌==◌}
use Rattle.std.specs.declared.alloc.Global.{Global}
use Rattle.std.proofs.lemmas.Bool.{both_ways}
use Rattle.std.specs.Vec.{vec_len}
use Rattle.std.proofs.lemmas.Bool.Decides.{Decides-eqb}
use Rattle.std.proofs.lemmas.List.{nil_from_length, with_items_is}
use Rattle.library.specs.declared.command.Command.TheVariants.{Replace}
use Rattle.library.specs.declared.reason.Reason.TheVariants.{UnknownLabel, NotATheorem, NotAlike, CitedNotLower}
use Rattle.bodystore.specs.declared.stored.StoredStep.{StoredStep}
use Rattle.bodystore.specs.Bodies.{proof_body}
use Rattle.cells.specs.Lookups.{AreWithin}
use Rattle.cells.proofs.Sights.{looks_trans, onward_trans, may_write_kept, may_stage_kept}
use Rattle.cells.proofs.Settings.{few_slots}
use Rattle.groundwork.specs.Changes.{ReprovesAt}
use Rattle.groundwork.specs.Touches.{ReprovesWithin}
use Rattle.groundwork.proofs.Touching.{keeps_to_since}
use Rattle.replacements.specs.Replacing.{TellsAlike, TellsNotLower, recited_step}
use Rattle.cells.proofs.Resolving.{finds_after}
use Rattle.replacements.proofs.Recited.{recited_within}
use Rattle.groundwork.proofs.Refusing.{of_none, refused_later, answers_refused, answers_ended, answers_unknown}
use Rattle.replacements.proofs.Replaced.{refuses_old, refuses_new, sought, sought_later, alike_later}
use Rattle.replacements.proofs.Replaced.{refuses_axiom, refuses_unlike, refuses_not_lower, replaced, replace_keeps}
use Rattle.replacements.proofs.Taking.{found_taken, recited_length}
use Rattle.cells.specs.Footprints.{IsOfLook}
use Rattle.groundwork.specs.Footprints.{ReadsFor, ReprovesReading}
use Rattle.groundwork.proofs.Since.{OfCommand, since_then, since_where, first_look}
use Rattle.replacements.proofs.ReplaceReads.{three_looks, then_proof, replace_alike, replace_ranks, replace_steps}
use Rattle.std.proofs.lemmas.Result.{err_from_is_err_and}
use Rattle.replacements.proofs.replacing.replace.Goals as goal

-- a vector of another length than 0 has items
not_empty : (v : Vec StoredStep Global) → (vec_len v == 0) ≡ false → v.items ≢ []
not_empty v some none =
    both_ways (vec_len v == 0) some ((Decides-eqb (vec_len v) 0).1 (omega (arith, ap (λ (xs : List StoredStep). length xs) none)))

pub returns-in_err-slot-clause-answers : goal.returns-in_err-slot-clause-answers
returns-in_err-slot-clause-answers g c =
    let s0 = g.C.Cells.sight c.args.cells.now in
    let s1 = g.C.Cells.sight c.known_slot.new.cells in
    let label = c.args.label.now in
    let command = Replace c.args.label.now c.args.old.now c.args.new.now in
    answers_unknown s0 s1 command label c.from_residual.result c.in_err-slot.field-0.0 c.from_residual.ensures.1 c.in_err-slot.ensures.err
    (λ none. refused_later s0 s1 command UnknownLabel c.known_slot.ensures.looks (λ st lib v. of_none lib label _ (none st lib v)))

pub returns-in_err-former-clause-onward : goal.returns-in_err-former-clause-onward
returns-in_err-former-clause-onward g c = onward_trans _ _ _ c.known_slot.ensures.looks.onward c.known_slot-2.ensures.looks.onward

pub returns-in_err-former-clause-answers : goal.returns-in_err-former-clause-answers
returns-in_err-former-clause-answers g c =
    let s0 = g.C.Cells.sight c.args.cells.now in
    let s1 = g.C.Cells.sight c.known_slot.new.cells in
    let s2 = g.C.Cells.sight c.known_slot-2.new.cells in
    let label = c.args.label.now in
    let old = c.args.old.now in
    let new = c.args.new.now in
    let command = Replace c.args.label.now c.args.old.now c.args.new.now in
    let finds = finds_after s1 s2 label c.in_ok-slot.slot c.known_slot-2.ensures.looks c.in_ok-slot.ensures.ok in
    answers_unknown s0 s2 command old c.from_residual-in_err-former.result c.in_err-former.field-0.0 c.from_residual-in_err-former.ensures.1
    c.in_err-former.ensures.err (λ none.
    refused_later s0 s2 command UnknownLabel (looks_trans s0 s1 s2 c.known_slot.ensures.looks c.known_slot-2.ensures.looks)
    (refuses_old s2 c.in_ok-slot.slot label old new finds none))

pub returns-in_err-next-clause-onward : goal.returns-in_err-next-clause-onward
returns-in_err-next-clause-onward g c =
    onward_trans _ _ _ c.known_slot.ensures.looks.onward
    (onward_trans _ _ _ c.known_slot-2.ensures.looks.onward c.known_slot-3.ensures.looks.onward)

pub returns-in_err-next-clause-answers : goal.returns-in_err-next-clause-answers
returns-in_err-next-clause-answers g c =
    let s0 = g.C.Cells.sight c.args.cells.now in
    let s1 = g.C.Cells.sight c.known_slot.new.cells in
    let s2 = g.C.Cells.sight c.known_slot-2.new.cells in
    let s3 = g.C.Cells.sight c.known_slot-3.new.cells in
    let label = c.args.label.now in
    let old = c.args.old.now in
    let new = c.args.new.now in
    let command = Replace c.args.label.now c.args.old.now c.args.new.now in
    let since = looks_trans s1 s2 s3 c.known_slot-2.ensures.looks c.known_slot-3.ensures.looks in
    let finds = finds_after s1 s3 label c.in_ok-slot.slot since c.in_ok-slot.ensures.ok in
    let finds_old = finds_after s2 s3 old c.in_ok-former.former c.known_slot-3.ensures.looks c.in_ok-former.ensures.ok in
    answers_unknown s0 s3 command new c.from_residual-in_err-next.result c.in_err-next.field-0.0 c.from_residual-in_err-next.ensures.1
    c.in_err-next.ensures.err (λ none.
    refused_later s0 s3 command UnknownLabel (looks_trans s0 s1 s3 c.known_slot.ensures.looks since)
    (refuses_new s3 c.in_ok-slot.slot label old new finds c.in_ok-former.former finds_old none))

pub returns-in_err-kept-clause-onward : goal.returns-in_err-kept-clause-onward
returns-in_err-kept-clause-onward g c =
    onward_trans _ _ _ c.known_slot.ensures.looks.onward (onward_trans _ _ _ c.known_slot-2.ensures.looks.onward
    (onward_trans _ _ _ c.known_slot-3.ensures.looks.onward c.stored_proof.ensures.looks.onward))

pub returns-then-is_empty-clause-onward : goal.returns-then-is_empty-clause-onward
returns-then-is_empty-clause-onward g c =
    onward_trans _ _ _ c.known_slot.ensures.looks.onward (onward_trans _ _ _ c.known_slot-2.ensures.looks.onward
    (onward_trans _ _ _ c.known_slot-3.ensures.looks.onward c.stored_proof.ensures.looks.onward))

pub returns-then-is_empty-clause-answers : goal.returns-then-is_empty-clause-answers
returns-then-is_empty-clause-answers g c =
    let s0 = g.C.Cells.sight c.args.cells.now in
    let s1 = g.C.Cells.sight c.known_slot.new.cells in
    let s2 = g.C.Cells.sight c.known_slot-2.new.cells in
    let s3 = g.C.Cells.sight c.known_slot-3.new.cells in
    let s4 = g.C.Cells.sight c.stored_proof.new.cells in
    let i = c.in_ok-slot.slot in
    let j = c.in_ok-former.former in
    let k = c.in_ok-next.next in
    let label = c.args.label.now in
    let old = c.args.old.now in
    let new = c.args.new.now in
    let kept = c.in_ok-kept.kept.items in
    let known = sought i j k label old new kept s0 s1 s2 s3 s4 c.known_slot.ensures.looks c.known_slot-2.ensures.looks
    c.known_slot-3.ensures.looks
    c.stored_proof.ensures.looks c.in_ok-slot.ensures.ok c.in_ok-former.ensures.ok c.in_ok-next.ensures.ok c.in_ok-kept.ensures.ok in
    let zero = (Decides-eqb (vec_len c.in_ok-kept.kept) 0).0 (sym c.is_empty.ensures ∙ c.if-is_empty.true) in
    let short : length c.in_ok-kept.kept.items ≡ 0 = omega (arith, zero) in
    let none = nil_from_length c.in_ok-kept.kept.items short in
    answers_refused s0 s4 (Replace label old new) NotATheorem c.into.result c.into.ensures
    (refuses_axiom s0 s4 i j k label old new kept known none)

pub returns-in_err-are_alike-clause-onward : goal.returns-in_err-are_alike-clause-onward
returns-in_err-are_alike-clause-onward g c =
    onward_trans _ _ _ c.known_slot.ensures.looks.onward (onward_trans _ _ _ c.known_slot-2.ensures.looks.onward
    (onward_trans _ _ _ c.known_slot-3.ensures.looks.onward
    (onward_trans _ _ _ c.stored_proof.ensures.looks.onward c.are_alike.ensures.looks.onward)))

pub returns-then-not-branch-clause-onward : goal.returns-then-not-branch-clause-onward
returns-then-not-branch-clause-onward g c =
    onward_trans _ _ _ c.known_slot.ensures.looks.onward (onward_trans _ _ _ c.known_slot-2.ensures.looks.onward
    (onward_trans _ _ _ c.known_slot-3.ensures.looks.onward
    (onward_trans _ _ _ c.stored_proof.ensures.looks.onward c.are_alike.ensures.looks.onward)))

pub returns-then-not-branch-clause-answers : goal.returns-then-not-branch-clause-answers
returns-then-not-branch-clause-answers g c =
    let s0 = g.C.Cells.sight c.args.cells.now in
    let s1 = g.C.Cells.sight c.known_slot.new.cells in
    let s2 = g.C.Cells.sight c.known_slot-2.new.cells in
    let s3 = g.C.Cells.sight c.known_slot-3.new.cells in
    let s4 = g.C.Cells.sight c.stored_proof.new.cells in
    let s5 = g.C.Cells.sight c.are_alike.new.cells in
    let i = c.in_ok-slot.slot in
    let j = c.in_ok-former.former in
    let k = c.in_ok-next.next in
    let label = c.args.label.now in
    let old = c.args.old.now in
    let new = c.args.new.now in
    let p = c.args.prelude.now in
    let kept = c.in_ok-kept.kept.items in
    let known = sought i j k label old new kept s0 s1 s2 s3 s4 c.known_slot.ensures.looks c.known_slot-2.ensures.looks
    c.known_slot-3.ensures.looks
    c.stored_proof.ensures.looks c.in_ok-slot.ensures.ok c.in_ok-former.ensures.ok c.in_ok-next.ensures.ok c.in_ok-kept.ensures.ok in
    let there = sought_later i j k label old new kept s0 s4 s5 c.are_alike.ensures.looks known in
    let some = not_empty c.in_ok-kept.kept (sym c.is_empty.ensures ∙ c.if-is_empty.false) in
    let unlike : TellsAlike s5 p j k false = subst (TellsAlike s5 p j k) c.if-not-branch.true c.in_ok-are_alike.ensures.ok in
    answers_refused s0 s5 (Replace label old new) NotAlike c.into-then-not-branch.result c.into-then-not-branch.ensures
    (refuses_unlike s0 s5 i j k label old new kept there some p c.requires.prelude unlike)

pub returns-in_err-is_not_lower-clause-onward : goal.returns-in_err-is_not_lower-clause-onward
returns-in_err-is_not_lower-clause-onward g c =
    onward_trans _ _ _ c.known_slot.ensures.looks.onward (onward_trans _ _ _ c.known_slot-2.ensures.looks.onward
    (onward_trans _ _ _ c.known_slot-3.ensures.looks.onward (onward_trans _ _ _ c.stored_proof.ensures.looks.onward
    (onward_trans _ _ _ c.are_alike.ensures.looks.onward c.is_not_lower.ensures.looks.onward))))

pub returns-then-branch-clause-onward : goal.returns-then-branch-clause-onward
returns-then-branch-clause-onward g c =
    onward_trans _ _ _ c.known_slot.ensures.looks.onward (onward_trans _ _ _ c.known_slot-2.ensures.looks.onward
    (onward_trans _ _ _ c.known_slot-3.ensures.looks.onward (onward_trans _ _ _ c.stored_proof.ensures.looks.onward
    (onward_trans _ _ _ c.are_alike.ensures.looks.onward c.is_not_lower.ensures.looks.onward))))

pub returns-then-branch-clause-answers : goal.returns-then-branch-clause-answers
returns-then-branch-clause-answers g c =
    let s0 = g.C.Cells.sight c.args.cells.now in
    let s1 = g.C.Cells.sight c.known_slot.new.cells in
    let s2 = g.C.Cells.sight c.known_slot-2.new.cells in
    let s3 = g.C.Cells.sight c.known_slot-3.new.cells in
    let s4 = g.C.Cells.sight c.stored_proof.new.cells in
    let s5 = g.C.Cells.sight c.are_alike.new.cells in
    let s6 = g.C.Cells.sight c.is_not_lower.new.cells in
    let i = c.in_ok-slot.slot in
    let j = c.in_ok-former.former in
    let k = c.in_ok-next.next in
    let label = c.args.label.now in
    let old = c.args.old.now in
    let new = c.args.new.now in
    let p = c.args.prelude.now in
    let kept = c.in_ok-kept.kept.items in
    let known = sought i j k label old new kept s0 s1 s2 s3 s4 c.known_slot.ensures.looks c.known_slot-2.ensures.looks
    c.known_slot-3.ensures.looks
    c.stored_proof.ensures.looks c.in_ok-slot.ensures.ok c.in_ok-former.ensures.ok c.in_ok-next.ensures.ok c.in_ok-kept.ensures.ok in
    let since = looks_trans s4 s5 s6 c.are_alike.ensures.looks c.is_not_lower.ensures.looks in
    let there = sought_later i j k label old new kept s0 s4 s6 since known in
    let some = not_empty c.in_ok-kept.kept (sym c.is_empty.ensures ∙ c.if-is_empty.false) in
    let like = alike_later s5 s6 p j k true c.is_not_lower.ensures.looks
    (subst (TellsAlike s5 p j k) c.if-not-branch.false c.in_ok-are_alike.ensures.ok) in
    let told : TellsNotLower s6 c.in_ok-slot.slot c.in_ok-next.next c.in_ok-is_not_lower.field-0 = c.in_ok-is_not_lower.ensures.ok in
    answers_refused s0 s6 (Replace label old new) CitedNotLower c.into-then-branch.result c.into-then-branch.ensures
    (refuses_not_lower s0 s6 i j k label old new kept there some p c.requires.prelude like
    (subst (TellsNotLower s6 i k) c.if-branch.true told))

pub put_steps-requires-clause-within : goal.put_steps-requires-clause-within
put_steps-requires-clause-within g c =
    let s3 = g.C.Cells.sight c.known_slot-3.new.cells in
    let s4 = g.C.Cells.sight c.stored_proof.new.cells in
    let s5 = g.C.Cells.sight c.are_alike.new.cells in
    let s6 = g.C.Cells.sight c.is_not_lower.new.cells in
    let j = c.in_ok-former.former in
    let k = c.in_ok-next.next in
    let kept = c.in_ok-kept.kept.items in
    let slots = s6.setting.slots in
    let written = c.as_slice.ensures.value
    ∙ with_items_is c.in_ok-kept.kept c.recite.new.steps (c.recite.auto.steps ∙ c.as_mut_slice.ensures.len) in
    let is = written ∙ c.recite.ensures ∙ ap (map (recited_step c.slot_count.result j k)) c.as_mut_slice.ensures.value
    ∙ ap (λ n. map (recited_step n j k) c.in_ok-kept.kept.items) c.slot_count.ensures.value in
    let since = looks_trans s3 s4 s6 c.stored_proof.ensures.looks
    (looks_trans s4 s5 s6 c.are_alike.ensures.looks c.is_not_lower.ensures.looks) in
    let finds = finds_after s3 s6 c.args.new.now k since c.in_ok-next.ensures.ok in
    subst (AreWithin s6.setting.slots) (sym is) (recited_within slots j k kept finds.0)

pub returns-in_err-put_steps-clause-onward : goal.returns-in_err-put_steps-clause-onward
returns-in_err-put_steps-clause-onward g c =
    onward_trans _ _ _ c.known_slot.ensures.looks.onward (onward_trans _ _ _ c.known_slot-2.ensures.looks.onward
    (onward_trans _ _ _ c.known_slot-3.ensures.looks.onward (onward_trans _ _ _ c.stored_proof.ensures.looks.onward
    (onward_trans _ _ _ c.are_alike.ensures.looks.onward
    (onward_trans _ _ _ c.is_not_lower.ensures.looks.onward c.put_steps.ensures.onward)))))

pub returns-clause-onward : goal.returns-clause-onward
returns-clause-onward g c =
    onward_trans _ _ _ c.known_slot.ensures.looks.onward (onward_trans _ _ _ c.known_slot-2.ensures.looks.onward
    (onward_trans _ _ _ c.known_slot-3.ensures.looks.onward (onward_trans _ _ _ c.stored_proof.ensures.looks.onward
    (onward_trans _ _ _ c.are_alike.ensures.looks.onward
    (onward_trans _ _ _ c.is_not_lower.ensures.looks.onward c.put_steps.ensures.onward)))))

pub returns-clause-answers : goal.returns-clause-answers
returns-clause-answers g c =
    let s0 = g.C.Cells.sight c.args.cells.now in
    let s1 = g.C.Cells.sight c.known_slot.new.cells in
    let s2 = g.C.Cells.sight c.known_slot-2.new.cells in
    let s3 = g.C.Cells.sight c.known_slot-3.new.cells in
    let s4 = g.C.Cells.sight c.stored_proof.new.cells in
    let s5 = g.C.Cells.sight c.are_alike.new.cells in
    let s6 = g.C.Cells.sight c.is_not_lower.new.cells in
    let s7 = g.C.Cells.sight c.put_steps.new.cells in
    let i = c.in_ok-slot.slot in
    let j = c.in_ok-former.former in
    let k = c.in_ok-next.next in
    let label = c.args.label.now in
    let old = c.args.old.now in
    let new = c.args.new.now in
    let p = c.args.prelude.now in
    let kept = c.in_ok-kept.kept.items in
    let known = sought i j k label old new kept s0 s1 s2 s3 s4 c.known_slot.ensures.looks c.known_slot-2.ensures.looks
    c.known_slot-3.ensures.looks
    c.stored_proof.ensures.looks c.in_ok-slot.ensures.ok c.in_ok-former.ensures.ok c.in_ok-next.ensures.ok c.in_ok-kept.ensures.ok in
    let since = looks_trans s4 s5 s6 c.are_alike.ensures.looks c.is_not_lower.ensures.looks in
    let there = sought_later i j k label old new kept s0 s4 s6 since known in
    let some = not_empty c.in_ok-kept.kept (sym c.is_empty.ensures ∙ c.if-is_empty.false) in
    let like = alike_later s5 s6 p j k true c.is_not_lower.ensures.looks
    (subst (TellsAlike s5 p j k) c.if-not-branch.false c.in_ok-are_alike.ensures.ok) in
    let told : TellsNotLower s6 c.in_ok-slot.slot c.in_ok-next.next c.in_ok-is_not_lower.field-0 = c.in_ok-is_not_lower.ensures.ok in
    let written = c.as_slice.ensures.value
    ∙ with_items_is c.in_ok-kept.kept c.recite.new.steps (c.recite.auto.steps ∙ c.as_mut_slice.ensures.len) in
    let is = written ∙ c.recite.ensures ∙ ap (map (recited_step c.slot_count.result j k)) c.as_mut_slice.ensures.value
    ∙ ap (λ n. map (recited_step n j k) c.in_ok-kept.kept.items) c.slot_count.ensures.value in
    replaced s0 s6 i j k label old new kept there some p c.requires.prelude like (subst (TellsNotLower s6 i k) c.if-branch.false told) s7
    c.put_steps.ensures.onward (subst (ReprovesAt s6 s7 i label) is (c.in_ok-put_steps.ensures.ok label)) c.in_ok-put_steps.ensures.written

pub returns-in_err-put_steps-clause-taken : goal.returns-in_err-put_steps-clause-taken
returns-in_err-put_steps-clause-taken g c st lib m v =
    let s1 = g.C.Cells.sight c.known_slot.new.cells in
    let s4 = g.C.Cells.sight c.stored_proof.new.cells in
    let j = c.in_ok-former.former in
    let k = c.in_ok-next.next in
    let kept = c.in_ok-kept.kept.items in
    let since = looks_trans _ _ _ c.known_slot-2.ensures.looks
    (looks_trans _ _ _ c.known_slot-3.ensures.looks c.stored_proof.ensures.looks) in
    let looks = looks_trans _ _ _ c.known_slot.ensures.looks since in
    let later = looks_trans _ _ _ c.are_alike.ensures.looks c.is_not_lower.ensures.looks in
    let on = onward_trans _ _ _ later.onward c.put_steps.ensures.onward in
    let finds = finds_after s1 s4 c.args.label.now c.in_ok-slot.slot since c.in_ok-slot.ensures.ok in
    let long = found_taken (g.C.Cells.sight c.args.cells.now) s4 (g.C.Cells.sight c.put_steps.new.cells) c.args.label.now c.in_ok-slot.slot
    kept looks on finds c.in_ok-kept.ensures.ok st lib m v in
    let written = c.as_slice.ensures.value
    ∙ with_items_is c.in_ok-kept.kept c.recite.new.steps (c.recite.auto.steps ∙ c.as_mut_slice.ensures.len) in
    let is = written ∙ c.recite.ensures ∙ ap (map (recited_step c.slot_count.result j k)) c.as_mut_slice.ensures.value in
    let same = ap (λ (ks : List StoredStep). length (proof_body ks)) is in
    let recited = recited_length (recited_step c.slot_count.result j k) kept in
    omega (arith, long, same, recited, c.put_steps.ensures.taken, looks.taken, later.taken)

pub returns-clause-taken : goal.returns-clause-taken
returns-clause-taken g c st lib m v =
    let s1 = g.C.Cells.sight c.known_slot.new.cells in
    let s4 = g.C.Cells.sight c.stored_proof.new.cells in
    let j = c.in_ok-former.former in
    let k = c.in_ok-next.next in
    let kept = c.in_ok-kept.kept.items in
    let since = looks_trans _ _ _ c.known_slot-2.ensures.looks
    (looks_trans _ _ _ c.known_slot-3.ensures.looks c.stored_proof.ensures.looks) in
    let looks = looks_trans _ _ _ c.known_slot.ensures.looks since in
    let later = looks_trans _ _ _ c.are_alike.ensures.looks c.is_not_lower.ensures.looks in
    let on = onward_trans _ _ _ later.onward c.put_steps.ensures.onward in
    let finds = finds_after s1 s4 c.args.label.now c.in_ok-slot.slot since c.in_ok-slot.ensures.ok in
    let long = found_taken (g.C.Cells.sight c.args.cells.now) s4 (g.C.Cells.sight c.put_steps.new.cells) c.args.label.now c.in_ok-slot.slot
    kept looks on finds c.in_ok-kept.ensures.ok st lib m v in
    let written = c.as_slice.ensures.value
    ∙ with_items_is c.in_ok-kept.kept c.recite.new.steps (c.recite.auto.steps ∙ c.as_mut_slice.ensures.len) in
    let is = written ∙ c.recite.ensures ∙ ap (map (recited_step c.slot_count.result j k)) c.as_mut_slice.ensures.value in
    let same = ap (λ (ks : List StoredStep). length (proof_body ks)) is in
    let recited = recited_length (recited_step c.slot_count.result j k) kept in
    omega (arith, long, same, recited, c.put_steps.ensures.taken, looks.taken, later.taken)

pub returns-clause-keeps : goal.returns-clause-keeps
returns-clause-keeps g c =
    let s0 = g.C.Cells.sight c.args.cells.now in
    let s1 = g.C.Cells.sight c.known_slot.new.cells in
    let s2 = g.C.Cells.sight c.known_slot-2.new.cells in
    let s3 = g.C.Cells.sight c.known_slot-3.new.cells in
    let s4 = g.C.Cells.sight c.stored_proof.new.cells in
    let s5 = g.C.Cells.sight c.are_alike.new.cells in
    let s6 = g.C.Cells.sight c.is_not_lower.new.cells in
    let s7 = g.C.Cells.sight c.put_steps.new.cells in
    let i = c.in_ok-slot.slot in
    let j = c.in_ok-former.former in
    let k = c.in_ok-next.next in
    let label = c.args.label.now in
    let old = c.args.old.now in
    let new = c.args.new.now in
    let kept = c.in_ok-kept.kept.items in
    let known = sought i j k label old new kept s0 s1 s2 s3 s4 c.known_slot.ensures.looks c.known_slot-2.ensures.looks
    c.known_slot-3.ensures.looks
    c.stored_proof.ensures.looks c.in_ok-slot.ensures.ok c.in_ok-former.ensures.ok c.in_ok-next.ensures.ok c.in_ok-kept.ensures.ok in
    let since = looks_trans s4 s5 s6 c.are_alike.ensures.looks c.is_not_lower.ensures.looks in
    let there = sought_later i j k label old new kept s0 s4 s6 since known in
    let written = c.as_slice.ensures.value
    ∙ with_items_is c.in_ok-kept.kept c.recite.new.steps (c.recite.auto.steps ∙ c.as_mut_slice.ensures.len) in
    let is = written ∙ c.recite.ensures ∙ ap (map (recited_step c.slot_count.result j k)) c.as_mut_slice.ensures.value
    ∙ ap (λ n. map (recited_step n j k) c.in_ok-kept.kept.items) c.slot_count.ensures.value in
    keeps_to_since s0 s6 s7 (Replace label old new) there.looks c.put_steps.ensures.onward
    (replace_keeps s0 s6 i j k label old new kept there s7
    (subst (ReprovesWithin s6 s7 i label) is (c.in_ok-put_steps.ensures.keeps label)))

pub returns-in_err-slot-clause-reads : goal.returns-in_err-slot-clause-reads
returns-in_err-slot-clause-reads g c =
    let s0 = g.C.Cells.sight c.args.cells.now in
    let s1 = g.C.Cells.sight c.known_slot.new.cells in
    let label = c.args.label.now in
    let old = c.args.old.now in
    let new = c.args.new.now in
    let x = Replace label old new in
    let r1 : ReadsFor s0 s1 (Replace c.args.label.now c.args.old.now c.args.new.now) =
    first_look s0 s1 x label (λ st lib c is. inl (inl is)) c.known_slot.ensures.reads in
    r1

pub returns-in_err-former-clause-reads : goal.returns-in_err-former-clause-reads
returns-in_err-former-clause-reads g c =
    let s0 = g.C.Cells.sight c.args.cells.now in
    let s1 = g.C.Cells.sight c.known_slot.new.cells in
    let label = c.args.label.now in
    let old = c.args.old.now in
    let new = c.args.new.now in
    let x = Replace label old new in
    let r1 : ReadsFor s0 s1 (Replace c.args.label.now c.args.old.now c.args.new.now) =
    first_look s0 s1 x label (λ st lib c is. inl (inl is)) c.known_slot.ensures.reads in
    let s2 = g.C.Cells.sight c.known_slot-2.new.cells in
    let l1 = c.known_slot.ensures.looks in
    let r2 : ReadsFor s0 s2 (Replace c.args.label.now c.args.old.now c.args.new.now) =
    since_then (OfCommand s0 x) r1 c.known_slot-2.ensures.looks.onward
    (since_where (OfCommand s0 x) s0 s1 s2 l1 (λ n. IsOfLook n old) (λ st lib c is. inl (inr (inl is))) c.known_slot-2.ensures.reads) in
    r2

pub returns-in_err-next-clause-reads : goal.returns-in_err-next-clause-reads
returns-in_err-next-clause-reads g c =
    let s0 = g.C.Cells.sight c.args.cells.now in
    let s1 = g.C.Cells.sight c.known_slot.new.cells in
    let s2 = g.C.Cells.sight c.known_slot-2.new.cells in
    let s3 = g.C.Cells.sight c.known_slot-3.new.cells in
    let label = c.args.label.now in
    let old = c.args.old.now in
    let new = c.args.new.now in
    three_looks s0 s1 s2 s3 label old new c.known_slot.ensures.looks c.known_slot-2.ensures.looks
    c.known_slot-3.ensures.looks c.known_slot.ensures.reads c.known_slot-2.ensures.reads c.known_slot-3.ensures.reads

pub returns-in_err-kept-clause-reads : goal.returns-in_err-kept-clause-reads
returns-in_err-kept-clause-reads g c =
    let s0 = g.C.Cells.sight c.args.cells.now in
    let s1 = g.C.Cells.sight c.known_slot.new.cells in
    let s2 = g.C.Cells.sight c.known_slot-2.new.cells in
    let s3 = g.C.Cells.sight c.known_slot-3.new.cells in
    let s4 = g.C.Cells.sight c.stored_proof.new.cells in
    let label = c.args.label.now in
    let old = c.args.old.now in
    let new = c.args.new.now in
    then_proof s0 s1 s2 s3 label old new c.known_slot.ensures.looks c.known_slot-2.ensures.looks
    c.known_slot-3.ensures.looks c.known_slot.ensures.reads c.known_slot-2.ensures.reads c.known_slot-3.ensures.reads
    s4 c.in_ok-slot.slot c.stored_proof.ensures.looks c.in_ok-slot.ensures.ok c.stored_proof.ensures.reads

pub returns-then-is_empty-clause-reads : goal.returns-then-is_empty-clause-reads
returns-then-is_empty-clause-reads g c =
    let s0 = g.C.Cells.sight c.args.cells.now in
    let s1 = g.C.Cells.sight c.known_slot.new.cells in
    let s2 = g.C.Cells.sight c.known_slot-2.new.cells in
    let s3 = g.C.Cells.sight c.known_slot-3.new.cells in
    let s4 = g.C.Cells.sight c.stored_proof.new.cells in
    let label = c.args.label.now in
    let old = c.args.old.now in
    let new = c.args.new.now in
    then_proof s0 s1 s2 s3 label old new c.known_slot.ensures.looks c.known_slot-2.ensures.looks
    c.known_slot-3.ensures.looks c.known_slot.ensures.reads c.known_slot-2.ensures.reads c.known_slot-3.ensures.reads
    s4 c.in_ok-slot.slot c.stored_proof.ensures.looks c.in_ok-slot.ensures.ok c.stored_proof.ensures.reads

pub returns-in_err-are_alike-clause-reads : goal.returns-in_err-are_alike-clause-reads
returns-in_err-are_alike-clause-reads g c =
    let s0 = g.C.Cells.sight c.args.cells.now in
    let s1 = g.C.Cells.sight c.known_slot.new.cells in
    let s2 = g.C.Cells.sight c.known_slot-2.new.cells in
    let s3 = g.C.Cells.sight c.known_slot-3.new.cells in
    let s4 = g.C.Cells.sight c.stored_proof.new.cells in
    let s5 = g.C.Cells.sight c.are_alike.new.cells in
    let label = c.args.label.now in
    let old = c.args.old.now in
    let new = c.args.new.now in
    let i = c.in_ok-slot.slot in
    let j = c.in_ok-former.former in
    let k = c.in_ok-next.next in
    let kept = c.in_ok-kept.kept.items in
    let known = sought i j k label old new kept s0 s1 s2 s3 s4 c.known_slot.ensures.looks c.known_slot-2.ensures.looks
    c.known_slot-3.ensures.looks c.stored_proof.ensures.looks c.in_ok-slot.ensures.ok c.in_ok-former.ensures.ok c.in_ok-next.ensures.ok
    c.in_ok-kept.ensures.ok in
    let r4 = then_proof s0 s1 s2 s3 label old new c.known_slot.ensures.looks c.known_slot-2.ensures.looks
    c.known_slot-3.ensures.looks c.known_slot.ensures.reads c.known_slot-2.ensures.reads c.known_slot-3.ensures.reads
    s4 c.in_ok-slot.slot c.stored_proof.ensures.looks c.in_ok-slot.ensures.ok c.stored_proof.ensures.reads in
    replace_alike s0 s4 s5 i j k label old new kept known c.are_alike.ensures.looks.onward r4 c.are_alike.ensures.reads

pub returns-then-not-branch-clause-reads : goal.returns-then-not-branch-clause-reads
returns-then-not-branch-clause-reads g c =
    let s0 = g.C.Cells.sight c.args.cells.now in
    let s1 = g.C.Cells.sight c.known_slot.new.cells in
    let s2 = g.C.Cells.sight c.known_slot-2.new.cells in
    let s3 = g.C.Cells.sight c.known_slot-3.new.cells in
    let s4 = g.C.Cells.sight c.stored_proof.new.cells in
    let s5 = g.C.Cells.sight c.are_alike.new.cells in
    let label = c.args.label.now in
    let old = c.args.old.now in
    let new = c.args.new.now in
    let i = c.in_ok-slot.slot in
    let j = c.in_ok-former.former in
    let k = c.in_ok-next.next in
    let kept = c.in_ok-kept.kept.items in
    let known = sought i j k label old new kept s0 s1 s2 s3 s4 c.known_slot.ensures.looks c.known_slot-2.ensures.looks
    c.known_slot-3.ensures.looks c.stored_proof.ensures.looks c.in_ok-slot.ensures.ok c.in_ok-former.ensures.ok c.in_ok-next.ensures.ok
    c.in_ok-kept.ensures.ok in
    let r4 = then_proof s0 s1 s2 s3 label old new c.known_slot.ensures.looks c.known_slot-2.ensures.looks
    c.known_slot-3.ensures.looks c.known_slot.ensures.reads c.known_slot-2.ensures.reads c.known_slot-3.ensures.reads
    s4 c.in_ok-slot.slot c.stored_proof.ensures.looks c.in_ok-slot.ensures.ok c.stored_proof.ensures.reads in
    replace_alike s0 s4 s5 i j k label old new kept known c.are_alike.ensures.looks.onward r4 c.are_alike.ensures.reads

pub returns-in_err-is_not_lower-clause-reads : goal.returns-in_err-is_not_lower-clause-reads
returns-in_err-is_not_lower-clause-reads g c =
    let s0 = g.C.Cells.sight c.args.cells.now in
    let s1 = g.C.Cells.sight c.known_slot.new.cells in
    let s2 = g.C.Cells.sight c.known_slot-2.new.cells in
    let s3 = g.C.Cells.sight c.known_slot-3.new.cells in
    let s4 = g.C.Cells.sight c.stored_proof.new.cells in
    let s5 = g.C.Cells.sight c.are_alike.new.cells in
    let s6 = g.C.Cells.sight c.is_not_lower.new.cells in
    let label = c.args.label.now in
    let old = c.args.old.now in
    let new = c.args.new.now in
    let i = c.in_ok-slot.slot in
    let j = c.in_ok-former.former in
    let k = c.in_ok-next.next in
    let kept = c.in_ok-kept.kept.items in
    let known = sought i j k label old new kept s0 s1 s2 s3 s4 c.known_slot.ensures.looks c.known_slot-2.ensures.looks
    c.known_slot-3.ensures.looks c.stored_proof.ensures.looks c.in_ok-slot.ensures.ok c.in_ok-former.ensures.ok c.in_ok-next.ensures.ok
    c.in_ok-kept.ensures.ok in
    let r4 = then_proof s0 s1 s2 s3 label old new c.known_slot.ensures.looks c.known_slot-2.ensures.looks
    c.known_slot-3.ensures.looks c.known_slot.ensures.reads c.known_slot-2.ensures.reads c.known_slot-3.ensures.reads
    s4 c.in_ok-slot.slot c.stored_proof.ensures.looks c.in_ok-slot.ensures.ok c.stored_proof.ensures.reads in
    let r5 = replace_alike s0 s4 s5 i j k label old new kept known c.are_alike.ensures.looks.onward r4 c.are_alike.ensures.reads in
    let later = sought_later i j k label old new kept s0 s4 s5 c.are_alike.ensures.looks known in
    replace_ranks s0 s5 s6 i j k label old new kept later c.is_not_lower.ensures.looks.onward r5
    c.is_not_lower.ensures.reads

pub returns-then-branch-clause-reads : goal.returns-then-branch-clause-reads
returns-then-branch-clause-reads g c =
    let s0 = g.C.Cells.sight c.args.cells.now in
    let s1 = g.C.Cells.sight c.known_slot.new.cells in
    let s2 = g.C.Cells.sight c.known_slot-2.new.cells in
    let s3 = g.C.Cells.sight c.known_slot-3.new.cells in
    let s4 = g.C.Cells.sight c.stored_proof.new.cells in
    let s5 = g.C.Cells.sight c.are_alike.new.cells in
    let s6 = g.C.Cells.sight c.is_not_lower.new.cells in
    let label = c.args.label.now in
    let old = c.args.old.now in
    let new = c.args.new.now in
    let i = c.in_ok-slot.slot in
    let j = c.in_ok-former.former in
    let k = c.in_ok-next.next in
    let kept = c.in_ok-kept.kept.items in
    let known = sought i j k label old new kept s0 s1 s2 s3 s4 c.known_slot.ensures.looks c.known_slot-2.ensures.looks
    c.known_slot-3.ensures.looks c.stored_proof.ensures.looks c.in_ok-slot.ensures.ok c.in_ok-former.ensures.ok c.in_ok-next.ensures.ok
    c.in_ok-kept.ensures.ok in
    let r4 = then_proof s0 s1 s2 s3 label old new c.known_slot.ensures.looks c.known_slot-2.ensures.looks
    c.known_slot-3.ensures.looks c.known_slot.ensures.reads c.known_slot-2.ensures.reads c.known_slot-3.ensures.reads
    s4 c.in_ok-slot.slot c.stored_proof.ensures.looks c.in_ok-slot.ensures.ok c.stored_proof.ensures.reads in
    let r5 = replace_alike s0 s4 s5 i j k label old new kept known c.are_alike.ensures.looks.onward r4 c.are_alike.ensures.reads in
    let later = sought_later i j k label old new kept s0 s4 s5 c.are_alike.ensures.looks known in
    replace_ranks s0 s5 s6 i j k label old new kept later c.is_not_lower.ensures.looks.onward r5
    c.is_not_lower.ensures.reads

pub returns-in_err-put_steps-clause-reads : goal.returns-in_err-put_steps-clause-reads
returns-in_err-put_steps-clause-reads g c =
    let s0 = g.C.Cells.sight c.args.cells.now in
    let s1 = g.C.Cells.sight c.known_slot.new.cells in
    let s2 = g.C.Cells.sight c.known_slot-2.new.cells in
    let s3 = g.C.Cells.sight c.known_slot-3.new.cells in
    let s4 = g.C.Cells.sight c.stored_proof.new.cells in
    let s5 = g.C.Cells.sight c.are_alike.new.cells in
    let s6 = g.C.Cells.sight c.is_not_lower.new.cells in
    let s7 = g.C.Cells.sight c.put_steps.new.cells in
    let label = c.args.label.now in
    let old = c.args.old.now in
    let new = c.args.new.now in
    let i = c.in_ok-slot.slot in
    let j = c.in_ok-former.former in
    let k = c.in_ok-next.next in
    let kept = c.in_ok-kept.kept.items in
    let known = sought i j k label old new kept s0 s1 s2 s3 s4 c.known_slot.ensures.looks c.known_slot-2.ensures.looks
    c.known_slot-3.ensures.looks c.stored_proof.ensures.looks c.in_ok-slot.ensures.ok c.in_ok-former.ensures.ok c.in_ok-next.ensures.ok
    c.in_ok-kept.ensures.ok in
    let r4 = then_proof s0 s1 s2 s3 label old new c.known_slot.ensures.looks c.known_slot-2.ensures.looks
    c.known_slot-3.ensures.looks c.known_slot.ensures.reads c.known_slot-2.ensures.reads c.known_slot-3.ensures.reads
    s4 c.in_ok-slot.slot c.stored_proof.ensures.looks c.in_ok-slot.ensures.ok c.stored_proof.ensures.reads in
    let r5 = replace_alike s0 s4 s5 i j k label old new kept known c.are_alike.ensures.looks.onward r4 c.are_alike.ensures.reads in
    let later = sought_later i j k label old new kept s0 s4 s5 c.are_alike.ensures.looks known in
    let r6 = replace_ranks s0 s5 s6 i j k label old new kept later c.is_not_lower.ensures.looks.onward r5
    c.is_not_lower.ensures.reads in
    let last = sought_later i j k label old new kept s0 s5 s6 c.is_not_lower.ensures.looks later in
    let written = c.as_slice.ensures.value
    ∙ with_items_is c.in_ok-kept.kept c.recite.new.steps (c.recite.auto.steps ∙ c.as_mut_slice.ensures.len) in
    let is = written ∙ c.recite.ensures ∙ ap (map (recited_step c.slot_count.result j k)) c.as_mut_slice.ensures.value
    ∙ ap (λ n. map (recited_step n j k) c.in_ok-kept.kept.items) c.slot_count.ensures.value in
    replace_steps s0 s6 s7 i j k label old new kept last c.put_steps.ensures.onward r6
    (subst (ReprovesReading s6 s7 i label) is (c.put_steps.ensures.reads label))

pub returns-clause-reads : goal.returns-clause-reads
returns-clause-reads g c =
    let s0 = g.C.Cells.sight c.args.cells.now in
    let s1 = g.C.Cells.sight c.known_slot.new.cells in
    let s2 = g.C.Cells.sight c.known_slot-2.new.cells in
    let s3 = g.C.Cells.sight c.known_slot-3.new.cells in
    let s4 = g.C.Cells.sight c.stored_proof.new.cells in
    let s5 = g.C.Cells.sight c.are_alike.new.cells in
    let s6 = g.C.Cells.sight c.is_not_lower.new.cells in
    let s7 = g.C.Cells.sight c.put_steps.new.cells in
    let label = c.args.label.now in
    let old = c.args.old.now in
    let new = c.args.new.now in
    let i = c.in_ok-slot.slot in
    let j = c.in_ok-former.former in
    let k = c.in_ok-next.next in
    let kept = c.in_ok-kept.kept.items in
    let known = sought i j k label old new kept s0 s1 s2 s3 s4 c.known_slot.ensures.looks c.known_slot-2.ensures.looks
    c.known_slot-3.ensures.looks c.stored_proof.ensures.looks c.in_ok-slot.ensures.ok c.in_ok-former.ensures.ok c.in_ok-next.ensures.ok
    c.in_ok-kept.ensures.ok in
    let r4 = then_proof s0 s1 s2 s3 label old new c.known_slot.ensures.looks c.known_slot-2.ensures.looks
    c.known_slot-3.ensures.looks c.known_slot.ensures.reads c.known_slot-2.ensures.reads c.known_slot-3.ensures.reads
    s4 c.in_ok-slot.slot c.stored_proof.ensures.looks c.in_ok-slot.ensures.ok c.stored_proof.ensures.reads in
    let r5 = replace_alike s0 s4 s5 i j k label old new kept known c.are_alike.ensures.looks.onward r4 c.are_alike.ensures.reads in
    let later = sought_later i j k label old new kept s0 s4 s5 c.are_alike.ensures.looks known in
    let r6 = replace_ranks s0 s5 s6 i j k label old new kept later c.is_not_lower.ensures.looks.onward r5
    c.is_not_lower.ensures.reads in
    let last = sought_later i j k label old new kept s0 s5 s6 c.is_not_lower.ensures.looks later in
    let written = c.as_slice.ensures.value
    ∙ with_items_is c.in_ok-kept.kept c.recite.new.steps (c.recite.auto.steps ∙ c.as_mut_slice.ensures.len) in
    let is = written ∙ c.recite.ensures ∙ ap (map (recited_step c.slot_count.result j k)) c.as_mut_slice.ensures.value
    ∙ ap (λ n. map (recited_step n j k) c.in_ok-kept.kept.items) c.slot_count.ensures.value in
    replace_steps s0 s6 s7 i j k label old new kept last c.put_steps.ensures.onward r6
    (subst (ReprovesReading s6 s7 i label) is (c.put_steps.ensures.reads label))

pub returns-in_err-slot-clause-keeps : goal.returns-in_err-slot-clause-keeps
returns-in_err-slot-clause-keeps g c =
    let p = err_from_is_err_and c.from_residual.result c.from_residual.ensures.1 in rw p.1 tt

pub returns-in_err-former-clause-keeps : goal.returns-in_err-former-clause-keeps
returns-in_err-former-clause-keeps g c =
    let p = err_from_is_err_and c.from_residual-in_err-former.result c.from_residual-in_err-former.ensures.1 in rw p.1 tt

pub returns-in_err-next-clause-keeps : goal.returns-in_err-next-clause-keeps
returns-in_err-next-clause-keeps g c =
    let p = err_from_is_err_and c.from_residual-in_err-next.result c.from_residual-in_err-next.ensures.1 in rw p.1 tt

pub returns-in_err-kept-clause-keeps : goal.returns-in_err-kept-clause-keeps
returns-in_err-kept-clause-keeps g c =
    let p = err_from_is_err_and c.from_residual-in_err-kept.result c.from_residual-in_err-kept.ensures.1 in rw p.1 tt

pub returns-in_err-are_alike-clause-keeps : goal.returns-in_err-are_alike-clause-keeps
returns-in_err-are_alike-clause-keeps g c =
    let p = err_from_is_err_and c.from_residual-in_err-are_alike.result c.from_residual-in_err-are_alike.ensures.1 in rw p.1 tt

pub returns-in_err-is_not_lower-clause-keeps : goal.returns-in_err-is_not_lower-clause-keeps
returns-in_err-is_not_lower-clause-keeps g c =
    let p = err_from_is_err_and c.from_residual-in_err-is_not_lower.result c.from_residual-in_err-is_not_lower.ensures.1 in rw p.1 tt

pub returns-in_err-put_steps-clause-keeps : goal.returns-in_err-put_steps-clause-keeps
returns-in_err-put_steps-clause-keeps g c =
    let p = err_from_is_err_and c.from_residual-in_err-put_steps.result c.from_residual-in_err-put_steps.ensures.1 in rw p.1 tt

pub returns-in_err-slot-clause-taken : goal.returns-in_err-slot-clause-taken
returns-in_err-slot-clause-taken g c st lib m v =
    omega (arith, c.known_slot.ensures.looks.taken)

pub returns-in_err-former-clause-taken : goal.returns-in_err-former-clause-taken
returns-in_err-former-clause-taken g c st lib m v =
    omega (arith, c.known_slot.ensures.looks.taken, c.known_slot-2.ensures.looks.taken)

pub returns-in_err-next-clause-taken : goal.returns-in_err-next-clause-taken
returns-in_err-next-clause-taken g c st lib m v =
    omega (arith, c.known_slot.ensures.looks.taken, c.known_slot-2.ensures.looks.taken, c.known_slot-3.ensures.looks.taken)

pub returns-in_err-kept-clause-taken : goal.returns-in_err-kept-clause-taken
returns-in_err-kept-clause-taken g c st lib m v =
    omega (
      arith,
      c.known_slot.ensures.looks.taken,
      c.known_slot-2.ensures.looks.taken,
      c.known_slot-3.ensures.looks.taken,
      c.stored_proof.ensures.looks.taken,
    )

pub returns-then-is_empty-clause-taken : goal.returns-then-is_empty-clause-taken
returns-then-is_empty-clause-taken g c st lib m v =
    omega (
      arith,
      c.known_slot.ensures.looks.taken,
      c.known_slot-2.ensures.looks.taken,
      c.known_slot-3.ensures.looks.taken,
      c.stored_proof.ensures.looks.taken,
    )

pub returns-in_err-are_alike-clause-taken : goal.returns-in_err-are_alike-clause-taken
returns-in_err-are_alike-clause-taken g c st lib m v =
    omega (
      arith,
      c.known_slot.ensures.looks.taken,
      c.known_slot-2.ensures.looks.taken,
      c.known_slot-3.ensures.looks.taken,
      c.stored_proof.ensures.looks.taken,
      c.are_alike.ensures.looks.taken,
    )

pub returns-then-not-branch-clause-taken : goal.returns-then-not-branch-clause-taken
returns-then-not-branch-clause-taken g c st lib m v =
    omega (
      arith,
      c.known_slot.ensures.looks.taken,
      c.known_slot-2.ensures.looks.taken,
      c.known_slot-3.ensures.looks.taken,
      c.stored_proof.ensures.looks.taken,
      c.are_alike.ensures.looks.taken,
    )

pub returns-in_err-is_not_lower-clause-taken : goal.returns-in_err-is_not_lower-clause-taken
returns-in_err-is_not_lower-clause-taken g c st lib m v =
    omega (
      arith,
      c.known_slot.ensures.looks.taken,
      c.known_slot-2.ensures.looks.taken,
      c.known_slot-3.ensures.looks.taken,
      c.stored_proof.ensures.looks.taken,
      c.are_alike.ensures.looks.taken,
      c.is_not_lower.ensures.looks.taken,
    )

pub returns-then-branch-clause-taken : goal.returns-then-branch-clause-taken
returns-then-branch-clause-taken g c st lib m v =
    omega (
      arith,
      c.known_slot.ensures.looks.taken,
      c.known_slot-2.ensures.looks.taken,
      c.known_slot-3.ensures.looks.taken,
      c.stored_proof.ensures.looks.taken,
      c.are_alike.ensures.looks.taken,
      c.is_not_lower.ensures.looks.taken,
    )

pub returns-then-is_empty-clause-keeps : goal.returns-then-is_empty-clause-keeps
returns-then-is_empty-clause-keeps g c = tt

pub returns-then-not-branch-clause-keeps : goal.returns-then-not-branch-clause-keeps
returns-then-not-branch-clause-keeps g c = tt

pub returns-then-branch-clause-keeps : goal.returns-then-branch-clause-keeps
returns-then-branch-clause-keeps g c = tt

pub returns-in_err-kept-clause-answers : goal.returns-in_err-kept-clause-answers
returns-in_err-kept-clause-answers g c =
    let command = Replace c.args.label.now c.args.old.now c.args.new.now in
    answers_ended (g.C.Cells.sight c.args.cells.now) (g.C.Cells.sight c.stored_proof.new.cells) command
    c.from_residual-in_err-kept.result _ c.from_residual-in_err-kept.ensures.1 c.in_err-kept.ensures.halts

pub returns-in_err-are_alike-clause-answers : goal.returns-in_err-are_alike-clause-answers
returns-in_err-are_alike-clause-answers g c =
    let command = Replace c.args.label.now c.args.old.now c.args.new.now in
    answers_ended (g.C.Cells.sight c.args.cells.now) (g.C.Cells.sight c.are_alike.new.cells) command
    c.from_residual-in_err-are_alike.result _ c.from_residual-in_err-are_alike.ensures.1 c.in_err-are_alike.ensures.halts

pub returns-in_err-is_not_lower-clause-answers : goal.returns-in_err-is_not_lower-clause-answers
returns-in_err-is_not_lower-clause-answers g c =
    let command = Replace c.args.label.now c.args.old.now c.args.new.now in
    answers_ended (g.C.Cells.sight c.args.cells.now) (g.C.Cells.sight c.is_not_lower.new.cells) command
    c.from_residual-in_err-is_not_lower.result _ c.from_residual-in_err-is_not_lower.ensures.1 c.in_err-is_not_lower.ensures.halts

pub returns-in_err-put_steps-clause-answers : goal.returns-in_err-put_steps-clause-answers
returns-in_err-put_steps-clause-answers g c =
    let command = Replace c.args.label.now c.args.old.now c.args.new.now in
    answers_ended (g.C.Cells.sight c.args.cells.now) (g.C.Cells.sight c.put_steps.new.cells) command
    c.from_residual-in_err-put_steps.result _ c.from_residual-in_err-put_steps.ensures.1 c.in_err-put_steps.ensures.halts

pub returns-in_err-slot-clause-onward : goal.returns-in_err-slot-clause-onward
returns-in_err-slot-clause-onward g c = c.known_slot.ensures.looks.onward

pub stored_proof-requires : goal.stored_proof-requires
stored_proof-requires g c =
    let since = looks_trans _ _ _ c.known_slot-2.ensures.looks c.known_slot-3.ensures.looks in
    (finds_after _ _ c.args.label.now c.in_ok-slot.slot since c.in_ok-slot.ensures.ok).0

pub are_alike-requires-clause-old : goal.are_alike-requires-clause-old
are_alike-requires-clause-old g c =
    let since = looks_trans _ _ _ c.known_slot-3.ensures.looks c.stored_proof.ensures.looks in
    (finds_after _ _ c.args.old.now c.in_ok-former.former since c.in_ok-former.ensures.ok).0

pub are_alike-requires-clause-new : goal.are_alike-requires-clause-new
are_alike-requires-clause-new g c =
    let since = c.stored_proof.ensures.looks in
    (finds_after _ _ c.args.new.now c.in_ok-next.next since c.in_ok-next.ensures.ok).0

pub is_not_lower-requires-clause-citing : goal.is_not_lower-requires-clause-citing
is_not_lower-requires-clause-citing g c =
    let since = looks_trans _ _ _ c.known_slot-2.ensures.looks (looks_trans _ _ _ c.known_slot-3.ensures.looks
    (looks_trans _ _ _ c.stored_proof.ensures.looks c.are_alike.ensures.looks)) in
    (finds_after _ _ c.args.label.now c.in_ok-slot.slot since c.in_ok-slot.ensures.ok).0

pub is_not_lower-requires-clause-cited : goal.is_not_lower-requires-clause-cited
is_not_lower-requires-clause-cited g c =
    let since = looks_trans _ _ _ c.stored_proof.ensures.looks c.are_alike.ensures.looks in
    (finds_after _ _ c.args.new.now c.in_ok-next.next since c.in_ok-next.ensures.ok).0

pub put_steps-requires-clause-slot : goal.put_steps-requires-clause-slot
put_steps-requires-clause-slot g c =
    let since = looks_trans _ _ _ c.known_slot-2.ensures.looks (looks_trans _ _ _ c.known_slot-3.ensures.looks
    (looks_trans _ _ _ c.stored_proof.ensures.looks (looks_trans _ _ _ c.are_alike.ensures.looks c.is_not_lower.ensures.looks))) in
    (finds_after _ _ c.args.label.now c.in_ok-slot.slot since c.in_ok-slot.ensures.ok).0

pub overflow_cast-former : goal.overflow_cast-former
overflow_cast-former g c =
    let few = few_slots _ (g.met.C.Cells.grounded c.known_slot-2.new.cells) in
    omega (arith, few, c.in_ok-former.ensures.ok.0)

pub overflow_cast-next : goal.overflow_cast-next
overflow_cast-next g c =
    let few = few_slots _ (g.met.C.Cells.grounded c.known_slot-3.new.cells) in
    omega (arith, few, c.in_ok-next.ensures.ok.0)

pub put_steps-requires-clause-may : goal.put_steps-requires-clause-may
put_steps-requires-clause-may g c =
    let sought = looks_trans _ _ _ c.known_slot.ensures.looks (looks_trans _ _ _ c.known_slot-2.ensures.looks
    c.known_slot-3.ensures.looks) in
    let tested = looks_trans _ _ _ c.stored_proof.ensures.looks (looks_trans _ _ _ c.are_alike.ensures.looks
    c.is_not_lower.ensures.looks) in
    let on = onward_trans _ _ _ sought.onward tested.onward in
    (may_write_kept on ∙ c.requires.may.0, may_stage_kept on ∙ c.requires.may.1)
