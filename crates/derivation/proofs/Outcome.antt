-- What the steps of an assertion come to is one: their tree, or their fault.
use Rattle.std.proofs.Common.{◌≡◌, ap, sym, ◌∙◌, Result, Ok, Err}
use Rattle.mmsyntax.specs.declared.statement.Assertion.{Assertion}
use Rattle.mmsyntax.specs.Tables.{Tables}
use Rattle.derivation.specs.declared.fault.ProofFault.{ProofFault}
use Rattle.derivation.specs.Derivation.{Citable, Tree, Derives, listing}
use Rattle.derivation.specs.Faults.{HasFault}
pub use Rattle.derivation.specs.Outcomes.{outcome, IsOutcome}
use Rattle.derivation.proofs.OneFault.{fault-is-one, fault-excludes-proof}
use Rattle.derivation.proofs.OneTree.{tree-is-one}
use Rattle.derivation.proofs.Growing.{outcome-grown}

-- the outcome is
pub outcome-is : (lib : Citable) (p : Tables) (a : Assertion) → IsOutcome lib p a (outcome lib p a)
outcome-is lib p a = outcome-grown lib p a

-- and nothing else is: there is one outcome
pub outcome-is-one : (lib : Citable) (p : Tables) (a : Assertion) (r s : Result Tree ProofFault) → IsOutcome lib p a r
    → IsOutcome lib p a s → r ≡ s
outcome-is-one lib p a (Ok t) (Ok u) h k = ap Ok (tree-is-one lib p a t u a.statement a.statement h.1 k.1 (h.0 ∙ sym k.0)).0
outcome-is-one lib p a (Ok t) (Err g) h k = absurd (fault-excludes-proof lib p a g k (t, h.0, h.1))
outcome-is-one lib p a (Err f) (Ok u) h k = absurd (fault-excludes-proof lib p a f h (u, k.0, k.1))
outcome-is-one lib p a (Err f) (Err g) h k = ap Err (fault-is-one lib p a f g h k)

-- for a tree
pub outcome-tree : (lib : Citable) (p : Tables) (a : Assertion) (t : Tree) → listing t ≡ a.proof → Derives lib p a t a.statement
    → outcome lib p a ≡ Ok t
outcome-tree lib p a t l d = outcome-is-one lib p a (outcome lib p a) (Ok t) (outcome-is lib p a) (l, d)

-- for a fault
pub outcome-fault : (lib : Citable) (p : Tables) (a : Assertion) (f : ProofFault) → HasFault lib p a f → outcome lib p a ≡ Err f
outcome-fault lib p a f h = outcome-is-one lib p a (outcome lib p a) (Err f) (outcome-is lib p a) h
