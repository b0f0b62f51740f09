-- A proof has one fault, and none where it proves.
use Rattle.std.proofs.Common.{◌≡◌, ℕ, ◌+◌, ◌<◌, ◌≤◌, List, [], ◌∷◌, ⊎_elim, length, take, slice_get, refl, sym, ap}
use Rattle.std.proofs.Common.{◌∙◌, append-nil, arith}
use Rattle.std.proofs.Math.Seq.{take-length}
use Rattle.std.proofs.lemmas.Option.{slice_get_within}
use Rattle.mmsyntax.specs.Tables.{Tables}
use Rattle.mmsyntax.specs.declared.statement.Frame.{Frame}
use Rattle.mmsyntax.specs.declared.statement.Assertion.{Assertion}
use Rattle.mmsyntax.specs.declared.statement.Step.{Step}
use Rattle.mmsyntax.specs.declared.statement.Step.TheVariants.{Float, Hyp, Cite}
use Rattle.derivation.specs.declared.fault.ProofFaultKind.{ProofFaultKind}
use Rattle.derivation.specs.declared.fault.ProofFaultKind.TheVariants.{UnknownStep, StackShort, WrongType, HypothesisDiffers, NotDisjoint}
use Rattle.derivation.specs.declared.fault.ProofFaultKind.TheVariants.{NotOneLeft, StatementDiffers, TooLong, NoMemory}
use Rattle.derivation.specs.declared.fault.ProofFault.{ProofFault}
use Rattle.derivation.specs.Derivation.{Expression, Citable, none, some, listing, ListForest, Proves, arity}
use Rattle.derivation.specs.Faults.{IsLongestFront, last, NamesNothing, Cites, FailsTest, StepFails, EndFails, HasFault}
use Rattle.derivation.specs.Laws.{FaultIsOne, FaultExcludesProof}
use Rattle.derivation.proofs.Forests.{Runs-same, lists-Runs}
use Rattle.derivation.proofs.Plain.{Some-same, None-Some}

-- at most one test is the first to fail
test-same : (p : Tables) (a : Assertion) (f : Frame) (es : List Expression) (j k : ProofFaultKind) → FailsTest p a f es j
    → FailsTest p a f es k → j ≡ k
test-same p a f es UnknownStep k h m = absurd h
test-same p a f es StackShort k h m = absurd h
test-same p a f es NotOneLeft k h m = absurd h
test-same p a f es StatementDiffers k h m = absurd h
test-same p a f es NoMemory k h m = absurd h
test-same p a f es WrongType WrongType h m = refl
test-same p a f es WrongType HypothesisDiffers h m = absurd (h m.0)
test-same p a f es WrongType NotDisjoint h m = absurd (h m.0)
test-same p a f es WrongType TooLong h m = absurd (h m.0)
test-same p a f es WrongType _ h m = absurd m
test-same p a f es HypothesisDiffers WrongType h m = absurd (m h.0)
test-same p a f es HypothesisDiffers HypothesisDiffers h m = refl
test-same p a f es HypothesisDiffers NotDisjoint h m = absurd (h.1 m.1)
test-same p a f es HypothesisDiffers TooLong h m = absurd (h.1 m.1)
test-same p a f es HypothesisDiffers _ h m = absurd m
test-same p a f es NotDisjoint WrongType h m = absurd (m h.0)
test-same p a f es NotDisjoint HypothesisDiffers h m = absurd (m.1 h.1)
test-same p a f es NotDisjoint NotDisjoint h m = refl
test-same p a f es NotDisjoint TooLong h m = absurd (h.2 m.2)
test-same p a f es NotDisjoint _ h m = absurd m
test-same p a f es TooLong WrongType h m = absurd (m h.0)
test-same p a f es TooLong HypothesisDiffers h m = absurd (m.1 h.1)
test-same p a f es TooLong NotDisjoint h m = absurd (m.2 h.2)
test-same p a f es TooLong TooLong h m = refl
test-same p a f es TooLong _ h m = absurd m

module _ (lib : Citable) (p : Tables) (a : Assertion) where
  cites-same : (step : Step) (f g : Frame) → Cites lib step f → Cites lib step g → f ≡ g
  cites-same (Float i) f g h m = absurd h
  cites-same (Hyp i) f g h m = absurd h
  cites-same (Cite label) f g h m = Some-same f g (lib label) h m

  named : (step : Step) (f : Frame) → NamesNothing lib p a step → Cites lib step f → ⊥
  named (Float i) f h m = m
  named (Hyp i) f h m = m
  named (Cite label) f h m = None-Some f (lib label) h m

  tests-same : (es : List Expression) (step : Step) (f g : Frame) (j k : ProofFaultKind) → Cites lib step f → Cites lib step g
      → FailsTest p a f (last (arity f) es) j → FailsTest p a g (last (arity g) es) k → j ≡ k
  tests-same es step f g j k c d h m =
      let e = cites-same step f g c d in
      test-same p a g (last (arity g) es) j k (rw e at h) m

  -- either the step names nothing, or it cites a frame for which there are too few expressions, or a test fails
  data Cause (es : List Expression) (step : Step) (kind : ProofFaultKind) : Type 0 where
    nothing : kind ≡ UnknownStep → NamesNothing lib p a step → Cause es step kind
    short : kind ≡ StackShort → (f : Frame) → Cites lib step f → length es < arity f → Cause es step kind
    test : (f : Frame) → Cites lib step f → arity f ≤ length es → FailsTest p a f (last (arity f) es) kind → Cause es step kind

  cause : (es : List Expression) (step : Step) (kind : ProofFaultKind) → StepFails lib p a es step kind → Cause es step kind
  cause es step UnknownStep h = nothing refl h
  cause es step StackShort h = short refl h.0 h.1 h.2
  cause es step kind h = test h.0 h.1 h.2 h.3

  causes-same : (es : List Expression) (step : Step) (j k : ProofFaultKind) → Cause es step j → Cause es step k → j ≡ k
  causes-same es step j k (nothing e h) (nothing d m) = e ∙ sym d
  causes-same es step j k (nothing e h) (short d f c m) = absurd (named step f h c)
  causes-same es step j k (nothing e h) (test f c le m) = absurd (named step f h c)
  causes-same es step j k (short e f c h) (nothing d m) = absurd (named step f m c)
  causes-same es step j k (short e f c h) (short d g b m) = e ∙ sym d
  causes-same es step j k (short e f c h) (test g b le m) = let same = cites-same step f g c b in absurd (omega (arith, ap arity same))
  causes-same es step j k (test f c le h) (nothing d m) = absurd (named step f m c)
  causes-same es step j k (test f c le h) (short d g b m) = let same = cites-same step f g c b in absurd (omega (arith, ap arity same))
  causes-same es step j k (test f c le h) (test g b le' m) = tests-same es step f g j k c b h m

  ends-same : (statement : Expression) (es : List Expression) (j k : ProofFaultKind) → EndFails statement es j → EndFails statement es k
      → j ≡ k
  ends-same statement es NotOneLeft NotOneLeft h m = refl
  ends-same statement es NotOneLeft StatementDiffers h m = absurd (h (ap length m.1))
  ends-same statement es NotOneLeft _ h m = absurd m
  ends-same statement es StatementDiffers NotOneLeft h m = absurd (m (ap length h.1))
  ends-same statement es StatementDiffers StatementDiffers h m = refl
  ends-same statement es StatementDiffers _ h m = absurd m
  ends-same statement es _ k h m = absurd h

  fronts-same : (n m : ℕ) (es ds : List Expression) → IsLongestFront lib p a n es → IsLongestFront lib p a m ds → n ≡ m
  fronts-same n m es ds h k =
      let below : n < m → ⊥ = λ lt. h.longest m ds lt k.within k.lists in
      let above : m < n → ⊥ = λ lt. k.longest n es lt h.within h.lists in
      omega arith

  lists-same : (n : ℕ) (es ds : List Expression) → ListForest lib p a (take n a.proof) es → ListForest lib p a (take n a.proof) ds → es ≡ ds
  lists-same n es ds h k = Runs-same lib p a (take n a.proof) [] es ds (lists-Runs lib p a _ es h) (lists-Runs lib p a _ ds k)

  fault-same : (f g : ProofFault) → HasFault lib p a f → HasFault lib p a g → f ≡ g
  fault-same f g h k =
      let n = fronts-same h.0 k.0 h.1 k.1 h.2 k.2 in
      let es = lists-same k.0 h.1 k.1 (rw n at h.2.lists) k.2.lists in
      ⊎_elim
      (λ end. ⊎_elim
      (λ end'. pair (end.1 ∙ n ∙ sym end'.1) (ends-same a.statement k.1 f.kind g.kind (rw es at end.2) end'.2))
      (λ step'. let lt = slice_get_within a.proof k.0 step'.0 step'.1 in absurd (omega (arith, end.0, n))) k.3)
      (λ step. ⊎_elim
      (λ end'. let lt = slice_get_within a.proof h.0 step.0 step.1 in absurd (omega (arith, end'.0, n)))
      (λ step'.
      let same : step.0 ≡ step'.0 = Some-same step.0 step'.0 (slice_get a.proof k.0) (rw n at step.1) step'.1 in
      pair (step.2 ∙ ap (λ m. m + 1) n ∙ sym step'.2)
      (causes-same k.1 step'.0 f.kind g.kind (cause k.1 step'.0 f.kind (rw (es, same) at step.3)) (cause k.1 step'.0 g.kind step'.3)))
      k.3) h.3
    where
      pair : f.step ≡ g.step → f.kind ≡ g.kind → f ≡ g
      pair s k = λ i. record { step = s i; kind = k i }

  -- a proof lists a forest of the one tree
  proof-lists : Proves lib p a a.proof a.statement → ListForest lib p a (take (length a.proof) a.proof) (a.statement ∷ [])
  proof-lists h =
      rw (take-length a.proof) (some h.0 none, append-nil (listing h.0) ∙ h.1, (a.statement, [], refl, h.2, refl))

  end-excludes : (kind : ProofFaultKind) → EndFails a.statement (a.statement ∷ []) kind → ⊥
  end-excludes NotOneLeft h = h refl
  end-excludes StatementDiffers h = let e : h.0 ≡ a.statement = cc in h.2 e
  end-excludes _ h = h

  excludes : (f : ProofFault) → HasFault lib p a f → Proves lib p a a.proof a.statement → ⊥
  excludes f h proof =
      ⊎_elim
      (λ end. let es = lists-same (length a.proof) h.1 (a.statement ∷ []) (rw end.0 at h.2.lists) (proof-lists proof) in
      end-excludes f.kind (rw es at end.2))
      (λ step. let lt = slice_get_within a.proof h.0 step.0 step.1 in
      h.2.longest (length a.proof) (a.statement ∷ []) lt (omega arith) (proof-lists proof)) h.3

pub fault-is-one : FaultIsOne
fault-is-one lib p a f g h k = fault-same lib p a f g h k

pub fault-excludes-proof : FaultExcludesProof
fault-excludes-proof lib p a f h proof = excludes lib p a f h proof
