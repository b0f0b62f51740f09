-- The first fault of the proofs of a source that doesn't verify: the first theorem in its order, and the first step at fault in its own
-- proof.
use Rattle.std.specs.Prelude.{Bool, true, false, List, [], ◌∷◌, ◌++◌, filter, length, if◌then◌else◌, Option, Some, None, Ok, Err}
use Rattle.std.specs.Option.{option_map, option_or, option_and_then}
use Rattle.mmtext.specs.Words.{Word}
use Rattle.derivation.specs.declared.fault.ProofFault.{ProofFault}
use Rattle.derivation.specs.declared.fault.ProofFaultKind.{ProofFaultKind}
use Rattle.derivation.specs.declared.fault.ProofFaultKind.TheVariants.{StatementDiffers}
use Rattle.source.specs.Scopes.{Assertion, Scope}
use Rattle.source.specs.Proofs.{Step, names, again, marks, unknown, steps_of, empty, run_steps, made, is_unfinished}
use Rattle.verifying.specs.Citations.{same_expression}
use Rattle.verifying.specs.Verifies.{Entry, entry}

-- labels, numbers and ? are counted as they are written, and a mark counts for none
abbrev pub is_counted : Step → Bool
is_counted (names w) = true
is_counted (again n) = true
is_counted marks = false
is_counted unknown = true

-- behind a front of the steps: a fault of the last that is counted
abbrev pub at_end : List Step → Option ProofFaultKind → Option ProofFault
at_end front kind = option_map (λ k. record { step = length (filter is_counted front); kind = k }) kind

-- the last entry failed
abbrev pub last_failure : List Entry → Option ProofFaultKind
last_failure (Err kind ∷ entries) = Some kind
last_failure _ = None

abbrev pub failure_behind : List Assertion → Assertion → List Step → Option ProofFaultKind
failure_behind earlier x front =
    option_and_then (λ s. last_failure s.entries) (run_steps (entry earlier x) earlier x.active (Some empty) front)

-- the one that is left isn't the statement
abbrev pub differs : Assertion → Entry → Option ProofFaultKind
differs x (Err kind) = None
differs x (Ok e) = if same_expression e x.statement then None else Some StatementDiffers

-- the shortest front whose last entry failed, from a front on where none did; or else the end
abbrev pub fault_from : List Assertion → Assertion → List Step → List Step → Option ProofFault
fault_from earlier x front [] = at_end front (option_and_then (differs x) (made (entry earlier x) earlier x.active front))
fault_from earlier x front (step ∷ steps) =
    option_or (at_end (front ++ step ∷ []) (failure_behind earlier x (front ++ step ∷ []))) (
    fault_from earlier x (front ++ step ∷ []) steps)

-- the fault of an assertion after the earlier ones. That a proof denotes no tree is a fault of the text
abbrev pub fault_of : List Assertion → Assertion → Option ProofFault
fault_of earlier x =
    option_and_then (λ proof.
    if is_unfinished proof then None else option_and_then (fault_from earlier x []) (steps_of x.hypotheses proof)) x.proof

-- the first of assertions that has one, with its label
abbrev pub first_fault : List Assertion → List Assertion → Option (Word × ProofFault)
first_fault earlier [] = None
first_fault earlier (x ∷ xs) = option_or (option_map (λ f. (x.label, f)) (fault_of earlier x)) (first_fault (earlier ++ x ∷ []) xs)

abbrev pub fault_in : Scope → Option (Word × ProofFault)
fault_in s = first_fault [] s.assertions
