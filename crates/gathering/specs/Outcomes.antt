-- What becomes of the proof of an assertion that is taken.
use Rattle.std.specs.Prelude.{◌≡◌, List, Some, None, All, IsTrue, is_some}
use Rattle.mmsyntax.specs.declared.statement.Step.{Step}
use Rattle.source.specs.Statements.{Proof}
use Rattle.source.specs.Proofs.{Tree, denoted}
use Rattle.source.specs.Scopes.{Assertion, Scope, label_of, is_in}
use Rattle.taking.specs.Names.{Map, label_in, float_in}
use Rattle.taking.specs.Settings.{is_float}
use Rattle.taking.specs.Listings.{listing}
use Rattle.taking.specs.Reasons.{Choice, reason}
use Rattle.gathering.specs.declared.proving.Outcome.{Outcome}
use Rattle.gathering.specs.declared.proving.Outcome.TheVariants as outcome

-- the steps that list the tree of its proof
pub record AreSteps (m : Map) (choice : Choice) (earlier : List Assertion) (x : Assertion) (steps : List Step) : Type 0 where
  pub proof : Proof
  pub has_proof : x.proof ≡ Some proof
  pub no_reason : reason choice earlier x ≡ None
  pub tree : Tree
  pub denotes : denoted earlier x ≡ Some tree
  pub lists : listing m earlier x.active tree ≡ Some steps

abbrev pub IsOutcome : Map → Choice → List Assertion → Assertion → Outcome → Type 0
IsOutcome m choice earlier x outcome.Axiom = x.proof ≡ None
IsOutcome m choice earlier x (outcome.AsAxiom why) = reason choice earlier x ≡ Some why
IsOutcome m choice earlier x (outcome.Theorem steps) = AreSteps m choice earlier x steps

-- the steps of what is chosen are known: of each $f that is active at an assertion, and of each chosen assertion
pub record HasStepsFor (m : Map) (choice : Choice) (s : Scope) (x : Assertion) : Type 0 where
  pub floats : All (λ h. IsTrue (is_float h) → IsTrue (is_some (float_in m (label_of h)))) x.active
  pub labels : All (λ y. IsTrue (is_in choice.chosen y.label) → IsTrue (is_some (label_in m y.label))) s.assertions
