-- What the check of a proof tells of its fault, and of its steps.
use Rattle.std.proofs.Common.{◌≡◌, ◌≢◌, List, [], ◌∷◌, ◌++◌, None, Some, length, sym, ap, ◌∙◌, arith, length-append}
use Rattle.mmsyntax.specs.declared.statement.Assertion.{Assertion}
use Rattle.mmsyntax.specs.declared.statement.Kind.TheVariants.{Theorem}
use Rattle.mmsyntax.specs.declared.statement.Step.{Step}
use Rattle.mmsyntax.specs.declared.statement.Step.TheVariants.{Cite}
use Rattle.mmsyntax.specs.Tables.{Tables}
use Rattle.derivation.specs.declared.fault.ProofFault.{ProofFault}
use Rattle.derivation.specs.Derivation.{Citable, Tree, float, hyp, node, listing, listings, Checks}
use Rattle.derivation.specs.Faults.{HasProofFault}
use Rattle.derivation.proofs.Outcome.{outcome-tree, outcome-fault}
use Rattle.library.specs.Edits.{fault_of}
use Rattle.groundwork.specs.Citing.{TellsFault}

-- a tree lists a step
listing-some : (t : Tree) → listing t ≢ []
listing-some (float i) e = absurd cc
listing-some (hyp k) e = absurd cc
listing-some (node label trees) e =
    let n : length (listings trees ++ Cite label ∷ []) ≡ 0 = ap (λ (xs : List Step). length xs) e in
    omega (arith, n, length-append (listings trees) (Cite label ∷ []))

-- a theorem that checks has no fault
pub tells-none : (frames : Citable) (t : Tables) (a : Assertion) → a.kind ≡ Theorem → Checks frames t a → TellsFault frames t a None
tells-none frames t a theorem checks =
    let proof = checks theorem in
    record {
      outcome = sym (ap fault_of (outcome-tree frames t a proof.0 proof.1 proof.2));
      some = λ _ e. listing-some proof.0 (proof.1 ∙ e);
    }

-- a fault is told
pub tells-fault : (frames : Citable) (t : Tables) (a : Assertion) (fault : ProofFault) → HasProofFault frames t a fault
    → TellsFault frames t a (Some fault)
tells-fault frames t a fault h =
    record {
      outcome = sym (ap fault_of (outcome-fault frames t a fault h.1));
      some = λ e. absurd cc;
    }
