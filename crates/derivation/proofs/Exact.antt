-- The answers of the checks are exact, memory aside: what checks has no fault, and a first fault is one.
use Rattle.std.proofs.Common.{◌≡◌, ◌≢◌, ℕ, ◌+◌, ◌<◌, slice_get, refl, sym, ap, subst, ◌∙◌, arith, Result, Ok, Err}
use Rattle.std.specs.Prelude.{IfErr, OnOk, MatchResult}
use Rattle.mmsyntax.specs.declared.statement.Assertion.{Assertion}
use Rattle.mmsyntax.specs.Tables.{Tables, Contents}
use Rattle.derivation.specs.declared.fault.ProofFault.{ProofFault}
use Rattle.derivation.specs.declared.fault.ProofFaultKind.{ProofFaultKind}
use Rattle.derivation.specs.declared.fault.ProofFaultKind.TheVariants.{UnknownStep, StackShort, WrongType, HypothesisDiffers}
use Rattle.derivation.specs.declared.fault.ProofFaultKind.TheVariants.{NotDisjoint, NotOneLeft, StatementDiffers, TooLong, NoMemory}
use Rattle.derivation.specs.Derivation.{Citable, Proves}
use Rattle.derivation.specs.Faults.{HasFault}
use Rattle.derivation.specs.Databases.{AllCheck, ChecksAt, HasFaultAt, IsFirstFault, citable_at}
use Rattle.derivation.proofs.OneFault.{fault-is-one, fault-excludes-proof}
use Rattle.derivation.proofs.Plain.{Some-same}

-- a kind that can't be another is want of memory
pub only-memory : (kind : ProofFaultKind) → (kind ≢ NoMemory → ⊥) → kind ≡ NoMemory
only-memory UnknownStep h = absurd (h (λ e. cc))
only-memory StackShort h = absurd (h (λ e. cc))
only-memory WrongType h = absurd (h (λ e. cc))
only-memory HypothesisDiffers h = absurd (h (λ e. cc))
only-memory NotDisjoint h = absurd (h (λ e. cc))
only-memory NotOneLeft h = absurd (h (λ e. cc))
only-memory StatementDiffers h = absurd (h (λ e. cc))
only-memory TooLong h = absurd (h (λ e. cc))
only-memory NoMemory h = refl

module _ {A : Type 0} (lib : Citable) (p : Tables) (a : Assertion) where
  -- what proves isn't refused
  pub proved-answered : (r : Result A ProofFault) → IfErr r (λ f. f.kind ≢ NoMemory → HasFault lib p a f) → Proves lib p a a.proof
      a.statement
      → IfErr r (λ f. f.kind ≡ NoMemory)
  proved-answered (Ok x) h proof = h
  proved-answered (Err f) h proof = only-memory f.kind (λ n. fault-excludes-proof lib p a f (h n) proof)

  -- what has a fault is refused with that fault
  pub fault-answered : (r : Result A ProofFault) → OnOk r (Proves lib p a a.proof a.statement)
      → IfErr r (λ f. f.kind ≢ NoMemory → HasFault lib p a f) → (fault : ProofFault) → HasFault lib p a fault
      → MatchResult r (λ _. ⊥) (λ found. found.kind ≢ NoMemory → found ≡ fault)
  fault-answered (Ok x) proof h fault has = fault-excludes-proof lib p a fault has proof
  fault-answered (Err f) proof h fault has = λ n. fault-is-one lib p a f fault (h n) has

module _ (db : Contents) where
  -- an assertion that checks has no fault
  at-excludes : (k : ℕ) (fault : ProofFault) → HasFaultAt db k fault → ChecksAt db k → ⊥
  at-excludes k fault h checks = fault-excludes-proof (citable_at db k) db.prelude h.0 fault h.2.1 (checks h.0 h.1 h.2.0)

  pub first-excludes : (i : ℕ) (fault : ProofFault) → IsFirstFault db i fault → AllCheck db → ⊥
  first-excludes i fault h all = at-excludes h.0 fault h.2 (all h.0)

  at-same : (k : ℕ) (f g : ProofFault) → HasFaultAt db k f → HasFaultAt db k g → f ≡ g
  at-same k f g h m =
      let same : h.0 ≡ m.0 = Some-same h.0 m.0 (slice_get db.assertions k) h.1 m.1 in
      fault-is-one (citable_at db k) db.prelude m.0 f g (subst (λ a. HasFault (citable_at db k) db.prelude a f) same h.2.1) m.2.1

  -- the first fault is one
  pub first-is-one : (i j : ℕ) (f g : ProofFault) → IsFirstFault db i f → IsFirstFault db j g → (i ≡ j) × (f ≡ g)
  first-is-one i j f g h m =
      let below : h.0 < m.0 → ⊥ = λ lt. at-excludes h.0 f h.2 (m.3 h.0 lt) in
      let above : m.0 < h.0 → ⊥ = λ lt. at-excludes m.0 g m.2 (h.3 m.0 lt) in
      let same : h.0 ≡ m.0 = omega arith in
      (h.1 ∙ ap (λ k. k + 1) same ∙ sym m.1, at-same m.0 f g (subst (λ k. HasFaultAt db k f) same h.2) m.2)
