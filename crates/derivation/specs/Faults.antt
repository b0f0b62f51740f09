-- The fault of a proof: the first test that fails after the longest front of the steps that lists a forest (tests of a step:
-- Metamath book, section 4.1.4; their order is a rule of the profile).
use Rattle.std.specs.Prelude.{◌≡◌, ◌≢◌, ℕ, ◌+◌, ◌-◌, ◌<◌, ◌≤◌, List, [], ◌∷◌, ◌⊎◌, None, Some, length, take, drop, slice_get}
use Rattle.mmsyntax.specs.declared.statement.Frame.{Frame}
use Rattle.mmsyntax.specs.declared.statement.Assertion.{Assertion}
use Rattle.mmsyntax.specs.declared.statement.Kind.TheVariants.{Theorem}
use Rattle.mmsyntax.specs.declared.statement.Step.{Step}
use Rattle.mmsyntax.specs.declared.statement.Step.TheVariants.{Float, Hyp, Cite}
use Rattle.mmsyntax.specs.Tables.{Tables}
use Rattle.derivation.specs.declared.fault.ProofFault.{ProofFault}
use Rattle.derivation.specs.declared.fault.ProofFaultKind.{ProofFaultKind}
use Rattle.derivation.specs.declared.fault.ProofFaultKind.TheVariants.{UnknownStep, StackShort, WrongType, HypothesisDiffers}
use Rattle.derivation.specs.declared.fault.ProofFaultKind.TheVariants.{NotDisjoint, NotOneLeft, StatementDiffers, TooLong}
use Rattle.derivation.specs.Derivation.{Expression, Citable, ListForest, arity, TypesFit, HypothesesFit, PairsFit, conclusion}
use Rattle.mmsyntax.specs.declared.limits.TheConstants.{MOST_SYMBOLS}

-- n is the number of steps in the longest front that lists a forest, and es is what its trees derive
pub record IsLongestFront (lib : Citable) (p : Tables) (a : Assertion) (n : ℕ) (es : List Expression) : Type 0 where
  pub within : n ≤ length a.proof
  pub lists : ListForest lib p a (take n a.proof) es
  pub longest : (m : ℕ) (ds : List Expression) → n < m → m ≤ length a.proof → ListForest lib p a (take m a.proof) ds → ⊥

-- the last n expressions
abbrev pub last : ℕ → List Expression → List Expression
last n es = drop (length es - n) es

-- a step names nothing
abbrev pub NamesNothing : Citable → Tables → Assertion → Step → Type 0
NamesNothing lib p a (Float i) = slice_get p.floats i ≡ None
NamesNothing lib p a (Hyp k) = slice_get a.hyps k ≡ None
NamesNothing lib p a (Cite label) = lib label ≡ None

-- a step cites an assertion with this frame
abbrev pub Cites : Citable → Step → Frame → Type 0
Cites lib (Float i) f = ⊥
Cites lib (Hyp k) f = ⊥
Cites lib (Cite label) f = lib label ≡ Some f

-- the first test that the expressions of a citation fail, one for each mandatory hypothesis: types, hypotheses, pairs, length
abbrev pub FailsTest : Tables → Assertion → Frame → List Expression → ProofFaultKind → Type 0
FailsTest p a f args WrongType = ¬ TypesFit p f args
FailsTest p a f args HypothesisDiffers = TypesFit p f args × ¬ HypothesesFit f args
FailsTest p a f args NotDisjoint = TypesFit p f args × HypothesesFit f args × ¬ PairsFit a f args
FailsTest p a f args TooLong =
    TypesFit p f args × HypothesesFit f args × PairsFit a f args × (MOST_SYMBOLS < length (conclusion f args))
FailsTest p a f args _ = ⊥

-- the first test that a step fails over the last of these expressions
abbrev pub StepFails : Citable → Tables → Assertion → List Expression → Step → ProofFaultKind → Type 0
StepFails lib p a es step UnknownStep = NamesNothing lib p a step
StepFails lib p a es step StackShort = (f : Frame) × Cites lib step f × (length es < arity f)
StepFails lib p a es step kind =
    (f : Frame) × Cites lib step f × (arity f ≤ length es) × FailsTest p a f (last (arity f) es) kind

-- the trees of all steps are not one tree that derives the statement
abbrev pub EndFails : Expression → List Expression → ProofFaultKind → Type 0
EndFails statement es NotOneLeft = length es ≢ 1
EndFails statement es StatementDiffers = (e : Expression) × (es ≡ e ∷ []) × (e ≢ statement)
EndFails statement es _ = ⊥

-- the fault of the steps of an assertion: behind the longest front that lists a forest the next step fails a test, and it is at fault,
-- counted from 1; or the front is all steps, and the end fails at their number. Want of memory is no fault of a proof
abbrev pub HasFault : Citable → Tables → Assertion → ProofFault → Type 0
HasFault lib p a fault =
    (n : ℕ) × (es : List Expression) × IsLongestFront lib p a n es
    × (((n ≡ length a.proof) × (fault.step ≡ n) × EndFails a.statement es fault.kind)
    ⊎ ((step : Step) × (slice_get a.proof n ≡ Some step) × (fault.step ≡ n + 1) × StepFails lib p a es step fault.kind))

-- the fault of a theorem; an axiom has none
abbrev pub HasProofFault : Citable → Tables → Assertion → ProofFault → Type 0
HasProofFault lib p a fault = (a.kind ≡ Theorem) × HasFault lib p a fault
