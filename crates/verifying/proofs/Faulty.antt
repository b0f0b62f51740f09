-- A source verifies, or it has a first fault.
use Rattle.std.proofs.Common.{◌≡◌, Bool, true, false, List, [], ◌∷◌, ◌++◌, refl, sym, ap, ◌∙◌, inl, inr}
use Rattle.std.specs.Prelude.{◌↔◌, Option, Some, None, Ok, IsSome, IfSome, is_some, if◌then◌else◌}
use Rattle.std.specs.Option.{option_map, option_or, option_and_then}
use Rattle.std.proofs.lemmas.Bool.{cases_Bool}
use Rattle.mmtext.specs.Words.{Word}
use Rattle.derivation.specs.declared.fault.ProofFault.{ProofFault}
use Rattle.source.specs.Statements.{Proof}
use Rattle.source.specs.Scopes.{Assertion, Scope}
use Rattle.source.specs.Proofs.{Step, made, steps_of, is_unfinished}
use Rattle.source.specs.Whole.{IsProofWhole, AreAssertionsWhole}
use Rattle.verifying.specs.Verifies.{entry, Derives, AreVerified}
use Rattle.verifying.specs.Faults.{fault_from, fault_of, first_fault}
use Rattle.verifying.specs.Laws.{DerivesOrFails, VerifiesOrFails}
use Rattle.verifying.proofs.Verified.{finished_are_derived}
use Rattle.verifying.proofs.Failing.{no_fault, derives}
use Rattle.source.proofs.Wholes.{sources_whole}

some_of : {A : Type 0} (o : Option A) → is_some o ≡ true → (a : A) × (o ≡ Some a)
some_of None h = absurd cc
some_of (Some a) h = (a, refl)

module _ (earlier : List Assertion) (x : Assertion) where
  to_none : (o : Option (List Step)) → option_and_then (made (entry earlier x) earlier x.active) o ≡ Some (Ok x.statement)
      → option_and_then (fault_from earlier x []) o ≡ None
  to_none None h = refl
  to_none (Some steps) h = no_fault earlier x [] steps h

  of_none : (o : Option (List Step)) → IsSome (option_and_then (made (entry earlier x) earlier x.active) o)
      → option_and_then (fault_from earlier x []) o ≡ None
      → option_and_then (made (entry earlier x) earlier x.active) o ≡ Some (Ok x.statement)
  of_none None s h = absurd cc
  of_none (Some steps) s h =
      let r = some_of (made (entry earlier x) earlier x.active steps) s in derives earlier x steps r.0 r.1 h

  of_proof : Proof → Bool → Option ProofFault
  of_proof proof b = if b then None else option_and_then (fault_from earlier x []) (steps_of x.hypotheses proof)

  fault_is : (proof : Proof) (b : Bool) → x.proof ≡ Some proof → is_unfinished proof ≡ b → fault_of earlier x ≡ of_proof proof b
  unfolding of_proof
  fault_is proof b e u = ap (option_and_then (λ p. of_proof p (is_unfinished p))) e ∙ ap (of_proof proof) u

pub derives_or_fails : DerivesOrFails
unfolding of_proof
derives_or_fails earlier x proof e finished denotes =
    let steps = steps_of x.hypotheses proof in (
      λ h. fault_is earlier x proof false e finished ∙ to_none earlier x steps h,
      λ h. of_none earlier x steps (finished_are_derived earlier x proof finished denotes)
          (sym (fault_is earlier x proof false e finished) ∙ h),
    )

pub verified_is : (earlier : List Assertion) (x : Assertion) (o : Option Proof) → x.proof ≡ o → IfSome o (IsProofWhole earlier x)
    → IfSome o (λ proof. is_unfinished proof ≡ false → Derives earlier x proof) ↔ (fault_of earlier x ≡ None)
unfolding of_proof
verified_is earlier x None e whole = (λ h. ap (option_and_then (λ p. of_proof earlier x p (is_unfinished p))) e, λ h. tt)
verified_is earlier x (Some proof) e whole = elim (cases_Bool (is_unfinished proof)) [
  | inl y ↦ (λ h. fault_is earlier x proof true e y, λ h f. absurd cc)
  | inr n ↦
      let law = derives_or_fails earlier x proof e n whole.leaves_one in
      (λ h. law.0 (h n), λ h f. law.1 h)
]

first_none : (label : Word) (f : Option ProofFault) (later : Option (Word × ProofFault))
    → option_or (option_map (λ f. (label, f)) f) later ≡ None → (f ≡ None) × (later ≡ None)
first_none label None later h = (refl, h)
first_none label (Some f) later h = absurd cc

all_verified : (s : Scope) (earlier xs : List Assertion) → AreAssertionsWhole s earlier xs
    → AreVerified earlier xs ↔ (first_fault earlier xs ≡ None)
all_verified s earlier [] whole = (λ h. refl, λ h. tt)
all_verified s earlier (x ∷ xs) whole =
    let here = verified_is earlier x x.proof refl whole.0.proof in
    let later = all_verified s (earlier ++ x ∷ []) xs whole.1 in (
      λ h. ap (λ f. option_or (option_map (λ f. (x.label, f)) f) (first_fault (earlier ++ x ∷ []) xs)) (here.0 h.0) ∙ later.0 h.1,
      λ h. let both = first_none x.label (fault_of earlier x) (first_fault (earlier ++ x ∷ []) xs) h in (here.1 both.0, later.1 both.1),
    )

pub verifies_or_fails : VerifiesOrFails
verifies_or_fails ss s declared = all_verified s [] s.assertions (sources_whole ss s declared).assertions
