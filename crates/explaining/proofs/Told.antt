-- What is told of an assertion of a source whose proof is finished, by what its steps come to.
use Rattle.std.proofs.Common.{◌≡◌, ◌∙◌, true, false, List, [], Option, Some, None, Result, Ok, Err, sym, ap, subst as transport}
use Rattle.std.specs.Prelude.{IfOk, IfSome, is_some, if◌then◌else◌}
use Rattle.std.specs.Option.{option_and_then}
use Rattle.source.specs.Statements.{Proof}
use Rattle.source.specs.Scopes.{Assertion, Scope}
use Rattle.source.specs.Proofs.{Step, steps_of, made, is_unfinished}
use Rattle.source.specs.Whole.{IsProofWhole, IsAssertionWhole}
use Rattle.verifying.specs.Verifies.{entry, derived}
use Rattle.verifying.specs.Faults.{fault_from, fault_of}
use Rattle.verifying.proofs.Verified.{finished_are_derived}
use Rattle.explaining.specs.declared.finding.Explained.{Explained}
use Rattle.explaining.specs.Findings.{HasFinding}
use Rattle.explaining.specs.Shown.{IsFaultFound}

pub under : {T E P : Type 0} (Q : T → Type 0) (r : Result T E) → (P → IfOk r Q) → IfOk r (λ v. P → Q v)
under Q (Ok v) f = f
under Q (Err e) f = tt

module _ (earlier : List Assertion) (x : Assertion) where
  pub no_proof : x.proof ≡ None → fault_of earlier x ≡ None
  no_proof e =
      ap (option_and_then (λ p. if is_unfinished p then None else option_and_then (fault_from earlier x []) (steps_of x.hypotheses p))) e

  pub unfinished : (proof : Proof) → x.proof ≡ Some proof → is_unfinished proof ≡ true → fault_of earlier x ≡ None
  unfinished proof e u =
      ap (option_and_then (λ p. if is_unfinished p then None else option_and_then (fault_from earlier x []) (steps_of x.hypotheses p))) e
      ∙ ap (λ b. if b then None else option_and_then (fault_from earlier x []) (steps_of x.hypotheses proof)) u

  module _ (s : Scope) (whole : IsAssertionWhole s earlier x) (proof : Proof) (is : x.proof ≡ Some proof)
      (finished : is_unfinished proof ≡ false) where
    some_derived : derived earlier x proof ≡ None → ⊥
    some_derived e =
        let w : IsProofWhole earlier x proof = transport (λ (o : Option Proof). IfSome o (IsProofWhole earlier x)) is whole.proof in
        let there = finished_are_derived earlier x proof finished w.leaves_one in
        let none = sym (ap is_some e) ∙ there in
        absurd cc

    pub some_steps : steps_of x.hypotheses proof ≡ None → ⊥
    some_steps e = some_derived (ap (option_and_then (made (entry earlier x) earlier x.active)) e)

    module _ (steps : List Step) (listed : steps_of x.hypotheses proof ≡ Some steps) where
      pub some_made : made (entry earlier x) earlier x.active steps ≡ None → ⊥
      some_made e = some_derived (ap (option_and_then (made (entry earlier x) earlier x.active)) listed ∙ e)

      fault_is : fault_of earlier x ≡ fault_from earlier x [] steps
      fault_is =
          ap (option_and_then (λ p. if is_unfinished p then None else option_and_then (fault_from earlier x []) (steps_of x.hypotheses p)))
          is
          ∙ ap (λ b. if b then None else option_and_then (fault_from earlier x []) (steps_of x.hypotheses proof)) finished
          ∙ ap (option_and_then (fault_from earlier x [])) listed

      pub has_none : fault_from earlier x [] steps ≡ None → fault_of earlier x ≡ None
      has_none e = fault_is ∙ e

      pub has_finding : (e : Explained) → IsFaultFound earlier x steps e.step e.finding → HasFinding earlier x e.step e.finding
      has_finding e h = record {
        fault = fault_is ∙ h.fault;
        proof = proof;
        has = is;
        steps = steps;
        listed = listed;
        found = h.found;
      }
