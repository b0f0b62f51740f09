-- What is told of an assertion, by what its steps made.
use Rattle.std.proofs.Common.{◌≡◌, ℕ, ◌≤◌, true, false, All, List, [], sym, ap}
use Rattle.std.proofs.Common.{subst as transport, ◌∙◌, arith}
use Rattle.std.specs.Prelude.{IfSome, is_some, Option, Some, None, Result, Ok, Err, if◌then◌else◌}
use Rattle.std.specs.Option.{option_and_then}
use Rattle.derivation.specs.declared.fault.ProofFault.{ProofFault}
use Rattle.derivation.specs.declared.fault.ProofFaultKind.{ProofFaultKind}
use Rattle.derivation.specs.declared.fault.ProofFaultKind.TheVariants.{UnknownStep, StackShort, WrongType, HypothesisDiffers, NotDisjoint}
use Rattle.derivation.specs.declared.fault.ProofFaultKind.TheVariants.{NotOneLeft, StatementDiffers, TooLong, NoMemory}
use Rattle.source.specs.Statements.{Proof}
use Rattle.source.specs.Scopes.{Assertion, Scope}
use Rattle.source.specs.Proofs.{Step, steps_of, made, is_unfinished}
use Rattle.source.specs.Whole.{IsProofWhole, IsAssertionWhole}
use Rattle.verifying.specs.Verifies.{entry, derived, Derives, IsVerified}
use Rattle.verifying.specs.Faults.{fault_from, fault_of}
use Rattle.verifying.proofs.Verified.{finished_are_derived}
use Rattle.sourcecheck.specs.declared.naming.Named.{Named}
use Rattle.sourcecheck.specs.declared.naming.Named.TheVariants as named
use Rattle.sourcecheck.specs.Shown.{IsPlaced, IsFaultOfKind, Tells, IsFaultOfProof, TellsProof, IsFaultOfAssertion, TellsAssertion}

-- ---- places

placed_more : (n m : ℕ) → n ≤ m → (x : Named) → IsPlaced n x → IsPlaced m x
placed_more n m le (named.Assertion k) h = omega (arith, h, le)
placed_more n m le (named.Hypothesis said) h = tt
placed_more n m le named.Unknown h = tt

pub all_placed : (n m : ℕ) (xs : List Named) → n ≤ m → All (IsPlaced n) xs → All (IsPlaced m) xs
all_placed n m xs le all = λ k d lt. placed_more n m le _ (all k d lt)

-- ---- the assertion at a place

module _ (earlier : List Assertion) (x : Assertion) where
  -- ---- of steps, and of the proof whose steps they are

  module _ (proof : Proof) (steps : List Step) (is : steps_of x.hypotheses proof ≡ Some steps) where
    derived_is : derived earlier x proof ≡ made (entry earlier x) earlier x.active steps
    derived_is = ap (option_and_then (made (entry earlier x) earlier x.active)) is

    fault_is : option_and_then (fault_from earlier x []) (steps_of x.hypotheses proof) ≡ fault_from earlier x [] steps
    fault_is = ap (option_and_then (fault_from earlier x [])) is

    kind_told : (count : ℕ) (kind : ProofFaultKind) → IsFaultOfKind earlier x steps count kind → IsFaultOfProof earlier x proof count kind
    kind_told count NoMemory h = tt
    kind_told count TooLong h = (steps, is, h)
    kind_told count UnknownStep h = derived_is ∙ h
    kind_told count StackShort h = derived_is ∙ h
    kind_told count NotOneLeft h = derived_is ∙ h
    kind_told count WrongType h = fault_is ∙ h
    kind_told count HypothesisDiffers h = fault_is ∙ h
    kind_told count NotDisjoint h = fault_is ∙ h
    kind_told count StatementDiffers h = fault_is ∙ h

    pub proof_told : (r : Result (Unit {0}) ProofFault) → Tells earlier x steps r → TellsProof earlier x proof r
    proof_told (Ok u) h = derived_is ∙ h
    proof_told (Err f) h = kind_told f.step f.kind h

  pub no_steps : (proof : Proof) → steps_of x.hypotheses proof ≡ None → derived earlier x proof ≡ None
  no_steps proof e = ap (option_and_then (made (entry earlier x) earlier x.active)) e

  -- ---- of a proof, and of the assertion

  module _ (s : Scope) (whole : IsAssertionWhole s earlier x) (proof : Proof) (is : x.proof ≡ Some proof)
      (finished : is_unfinished proof ≡ false) where
    some_derived : derived earlier x proof ≡ None → ⊥
    some_derived e =
        let w : IsProofWhole earlier x proof = transport (λ (o : Option Proof). IfSome o (IsProofWhole earlier x)) is whole.proof in
        let there = finished_are_derived earlier x proof finished w.leaves_one in
        let none = sym (ap is_some e) ∙ there in
        absurd cc

    fault_of_is : fault_of earlier x ≡ option_and_then (fault_from earlier x []) (steps_of x.hypotheses proof)
    fault_of_is =
        ap (option_and_then (λ p. if is_unfinished p then None else option_and_then (fault_from earlier x []) (steps_of x.hypotheses p))) is
        ∙ ap (λ b. if b then None else option_and_then (fault_from earlier x []) (steps_of x.hypotheses proof)) finished

    fault_told : (count : ℕ) (kind : ProofFaultKind) → IsFaultOfProof earlier x proof count kind
        → IsFaultOfAssertion earlier x (record { step = count; kind = kind })
    fault_told count NoMemory h = tt
    fault_told count TooLong h = record { proof = proof; has = is; long = h }
    fault_told count UnknownStep h = absurd (some_derived h)
    fault_told count StackShort h = absurd (some_derived h)
    fault_told count NotOneLeft h = absurd (some_derived h)
    fault_told count WrongType h = fault_of_is ∙ h
    fault_told count HypothesisDiffers h = fault_of_is ∙ h
    fault_told count NotDisjoint h = fault_of_is ∙ h
    fault_told count StatementDiffers h = fault_of_is ∙ h

    pub assertion_told : (r : Result (Unit {0}) ProofFault) → TellsProof earlier x proof r → TellsAssertion earlier x r
    assertion_told (Ok u) h = transport (λ (o : Option Proof). IfSome o (λ p. is_unfinished p ≡ false → Derives earlier x p)) (sym is)
        (λ f. h)
    assertion_told (Err f) h = fault_told f.step f.kind h

  pub no_proof : x.proof ≡ None → IsVerified earlier x
  no_proof e = transport (λ (o : Option Proof). IfSome o (λ p. is_unfinished p ≡ false → Derives earlier x p)) (sym e) tt

  pub unfinished : (proof : Proof) → x.proof ≡ Some proof → is_unfinished proof ≡ true → IsVerified earlier x
  unfinished proof e u =
      transport (λ (o : Option Proof). IfSome o (λ p. is_unfinished p ≡ false → Derives earlier x p)) (sym e)
      (λ f. absurd cc)
