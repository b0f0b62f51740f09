use Rattle.std.proofs.Common.{◌≡◌, Some, Ok, set, refl, sym, ap, ◌∙◌}
use Rattle.library.specs.declared.library.Ranked.{Ranked}
use Rattle.library.specs.declared.reason.Reason.TheVariants as reason
use Rattle.library.specs.Edits.{is_axiom, where_so, done, with_proof, proof_tests, reprove_tests}
use Rattle.catalog.specs.Entries.{living}
use Rattle.history.specs.Drafts.{Drafted, now_in}
use Rattle.history.specs.Refusals.{first_reason}
use Rattle.history.proofs.Commands.{tested_some, tested_none, so, not_so, first-some, first-none, found_nowhere, known_label, HasLabel}
use Rattle.history.proofs.Commands.{has_label, free_in}
use Rattle.history.proofs.Commands.{library-changed}
use Rattle.history.proofs.draft.Draft.try_proof.Goals as goal

pub returns-in_default-clause-refused : goal.returns-in_default-clause-refused
returns-in_default-clause-refused c =
    let d = c.args.self.now in
    let lib = now_in d in
    let i = c.self.inside in
    let held : i.entries.items ≡ d.entries = ap (λ (x : Drafted). x.entries) c.self.view_is in
    let slice : c.as_slice.result.now ≡ i.entries.items = c.as_slice.ensures.value in
    let w = c.args.label.now in
    rw c.refused.ensures (
      refl,
      found_nowhere lib w _ (free_in _ d.entries _ w (slice
          ∙ held) c.as_slice-2.ensures c.in_default.ensures.none),
    )

pub returns-in-Axiom-clause-refused : goal.returns-in-Axiom-clause-refused
returns-in-Axiom-clause-refused c =
    let d = c.args.self.now in
    let lib = now_in d in
    let i = c.self.inside in
    let held : i.entries.items ≡ d.entries = ap (λ (x : Drafted). x.entries) c.self.view_is in
    let slice : c.as_slice.result.now ≡ i.entries.items = c.as_slice.ensures.value in
    let w = c.args.label.now in
    let at = c.in-Some.ensures.some in
    let e = c.in-Some.entry.now in
    let p = c.in-Some.place in
    let own : HasLabel i.places d.entries w p e =
    has_label i.places i.entries.items d.entries c.as_slice.result.now c.as_slice-2.result.now w p e c.self.invariant.0.indexed held slice
    at.0 at.1 c.as_slice-2.ensures in
    let no_theorem = so (is_axiom e.assertion.kind) reason.NotATheorem (ap is_axiom c.in-Axiom.is) in
    let first = first-some (where_so (is_axiom e.assertion.kind) reason.NotATheorem) _ reason.NotATheorem no_theorem in
    rw c.refused-in-Axiom.ensures (
      refl,
      known_label i.places d.entries w p e _ own
          ∙ tested_some (reprove_tests d.setting lib c.args.steps.now e) _ reason.NotATheorem first,
    )

pub returns-in-Some-2-clause-refused : goal.returns-in-Some-2-clause-refused
returns-in-Some-2-clause-refused c =
    let d = c.args.self.now in
    let lib = now_in d in
    let i = c.self.inside in
    let held : i.entries.items ≡ d.entries = ap (λ (x : Drafted). x.entries) c.self.view_is in
    let slice : c.as_slice.result.now ≡ i.entries.items = c.as_slice.ensures.value in
    let w = c.args.label.now in
    let at = c.in-Some.ensures.some in
    let e = c.in-Some.entry.now in
    let p = c.in-Some.place in
    let own : HasLabel i.places d.entries w p e =
    has_label i.places i.entries.items d.entries c.as_slice.result.now c.as_slice-2.result.now w p e c.self.invariant.0.indexed held slice
    at.0 at.1 c.as_slice-2.ensures in
    let steps = c.args.steps.now in
    let tests = reprove_tests d.setting lib steps e in
    let theorem = not_so (is_axiom e.assertion.kind) reason.NotATheorem (ap is_axiom c.in_default-kind.is) in
    let front = first-none (where_so (is_axiom e.assertion.kind) reason.NotATheorem)
    (proof_tests d.setting lib e.rank (with_proof steps e).assertion) theorem in
    let made : c.in_ok-new.new ≡ with_proof steps e =
    c.in_ok-new.ensures ∙ ap (λ s. with_proof s e) c.in_ok-proof.ensures in
    let tested : c.in_ok-reason.field-0 ≡ first_reason (proof_tests d.setting lib e.rank (with_proof steps e).assertion) =
    c.in_ok-reason.ensures ∙ ap (λ (x : Ranked). first_reason (proof_tests d.setting lib x.rank x.assertion)) made in
    rw c.refused-in-Some-2.ensures (
      refl,
      known_label i.places d.entries w p e _ own
          ∙ tested_some tests _ c.in-Some-2.reason (front ∙ sym tested ∙ c.in-Some-2.is),
    )

pub returns-clause-passed : goal.returns-clause-passed
returns-clause-passed c =
    let d = c.args.self.now in
    let lib = now_in d in
    let i = c.self.inside in
    let held : i.entries.items ≡ d.entries = ap (λ (x : Drafted). x.entries) c.self.view_is in
    let slice : c.as_slice.result.now ≡ i.entries.items = c.as_slice.ensures.value in
    let w = c.args.label.now in
    let at = c.in-Some.ensures.some in
    let e = c.in-Some.entry.now in
    let p = c.in-Some.place in
    let own : HasLabel i.places d.entries w p e =
    has_label i.places i.entries.items d.entries c.as_slice.result.now c.as_slice-2.result.now w p e c.self.invariant.0.indexed held slice
    at.0 at.1 c.as_slice-2.ensures in
    let steps = c.args.steps.now in
    let tests = reprove_tests d.setting lib steps e in
    let theorem = not_so (is_axiom e.assertion.kind) reason.NotATheorem (ap is_axiom c.in_default-kind.is) in
    let front = first-none (where_so (is_axiom e.assertion.kind) reason.NotATheorem)
    (proof_tests d.setting lib e.rank (with_proof steps e).assertion) theorem in
    let made : c.in_ok-new.new ≡ with_proof steps e =
    c.in_ok-new.ensures ∙ ap (λ s. with_proof s e) c.in_ok-proof.ensures in
    let tested : c.in_ok-reason.field-0 ≡ first_reason (proof_tests d.setting lib e.rank (with_proof steps e).assertion) =
    c.in_ok-reason.ensures ∙ ap (λ (x : Ranked). first_reason (proof_tests d.setting lib x.rank x.assertion)) made in
    record {
      former = e;
      at = own.at;
      made = made;
      taken = known_label i.places d.entries w p e _ own ∙ tested_none tests _ (front ∙ sym tested ∙ c.in_default-2.is)
          ∙ ap (λ l. Ok (done l)) (sym (library-changed i.places d.entries w p e (with_proof steps) own)
          ∙ ap (λ (x : Ranked). living (set d.entries p (Some x))) (sym made));
    }
