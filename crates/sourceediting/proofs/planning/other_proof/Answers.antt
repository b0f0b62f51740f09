-- What is left to show of `other_proof`: the place of the assertion is one of the source.
use Rattle.std.proofs.Common.{◌≡◌, ◌∙◌, ℕ, ◌<◌, Bool, List, [], ◌∷◌, length, Some, refl, sym, ap₂, subst, rules}
use Rattle.std.specs.Prelude.{IfSome, IsTrue, is_some, slice_get}
use Rattle.std.specs.Option.{option_and_then}
use mathlib.Core.Bool.{not}
use Rattle.sourcewriting.specs.Forms.{is_compressed_form}
use Rattle.sourcewriting.specs.Indentations.{indentation_like}
use Rattle.sourcewriting.specs.Counting.{Takes}
use Rattle.sourcewriting.specs.Lines.{IsInLines}
use Rattle.sourcewriting.specs.MarkedTexts.{IsMarkedText}
use Rattle.sourcewriting.proofs.MarkedProofs.{marked_where}
use Rattle.std.proofs.lemmas.Option.{same_Some}
use Rattle.taking.specs.Listings.{premise_labels}
use Rattle.sourcewriting.specs.Leaving.{StepTakes}
use Rattle.sourcewriting.proofs.Leading.{put_where}
use Rattle.sourceediting.specs.Entries.{TakesThen, StepTakesThen}
use Rattle.sourceediting.specs.Refusals.{OnUnwritten}
use Rattle.sourceediting.proofs.Unwritten.{clash}
use Rattle.sourceediting.specs.Reproved.{has_premises, CanBeReproved}
use Rattle.sourceediting.proofs.Indented.{found_in, written_for}
use Rattle.mmsyntax.specs.Tables.{place_of}
use Rattle.mmsyntax.proofs.Names.{place_of-at}
use Rattle.sourceediting.proofs.planning.other_proof.Goals as goal

place_within : {A : Type 0} (test : A → Bool) (xs : List A) (i : ℕ) → place_of test xs ≡ Some i → i < length xs
place_within test [] i h = absurd cc
place_within test (x ∷ xs) i h = (place_of-at test (x ∷ xs) i x h).0

pub proof_text-requires : goal.proof_text-requires
proof_text-requires g c κs =
    let within = place_within _ _ c.in-Some.place (sym c.in-Some.ensures) in
    ((refl, tt), (within, c.indentation_like-indentation.ensures.room))

pub returns-in-Some-2-clause-written : goal.returns-in-Some-2-clause-written
returns-in-Some-2-clause-written g c = λ bytes e living indented names.
    let s = g.D.Declared.scope c.args.declared.now in
    let form = is_compressed_form (option_and_then (λ x. x.proof) (slice_get s.assertions c.in-Some.place)) in
    let i = c.indentation_like-indentation.result.now in
    let has : not c.is_empty-has_premises.result ≡ has_premises c.args.new.now = search rules in
    let is : i ≡ found_in c.args.indentations.now c.args.source.now c.args.new.now =
    c.indentation_like-indentation.ensures.is ∙ ap₂ indentation_like c.text_for.ensures has in
    let text = c.in-Some-2.text.items in
    let laid : IsInLines i form text =
    subst (λ o. IfSome o (λ text. IsInLines i form text.items)) c.in-Some-2.is c.in_ok-text.ensures.laid_out in
    written_for bytes s e living c.args.source.now c.args.new.now text i c.args.indentations.now c.in-Some.place indented
    (sym c.in-Some.ensures) is laid (λ x at compressed.
    let takes = Takes s c.args.names.now x.hypotheses in
    marked_where i takes (TakesThen s e living x.hypotheses) x.hypotheses text (names x.hypotheses)
    (subst (λ o. IfSome o (λ text. IsMarkedText i takes x.hypotheses text.items)) c.in-Some-2.is
    (c.in_ok-text.ensures.marked x at compressed)))

pub returns-in_ok-unwritten-in-None-clause-unwritten : goal.returns-in_ok-unwritten-in-None-clause-unwritten
returns-in_ok-unwritten-in-None-clause-unwritten g c = λ e living names steps.
    let s = g.D.Declared.scope c.args.declared.now in
    let m = c.args.names.now in
    let new = c.args.new.now in
    let cannot : CanBeReproved s e living c.args.source.now new → ⊥ = λ can.
    let place : can.place ≡ c.in-Some.place = same_Some can.place c.in-Some.place (sym can.stands ∙ sym c.in-Some.ensures) in
    let at = subst (λ k. slice_get s.assertions k ≡ Some can.old) place can.is in
    let hs = can.old.hypotheses in
    let premises = length (premise_labels hs) in
    let put = put_where (StepTakesThen s e living premises) (StepTakes s m premises) (TakesThen s e living hs) (Takes s m hs)
    (is_compressed_form can.old.proof) hs new.proof (steps premises) (names hs) can.can in
    clash (subst (λ o. IsTrue (is_some o)) c.in-None.is (c.in_ok-text.ensures.some can.old at put)) in
    subst (OnUnwritten (λ label. (new.label ≡ label) × (CanBeReproved s e living c.args.source.now new → ⊥)))
    (sym c.in_ok-unwritten-in-None.ensures) (refl, cannot)
