-- Of the code's inside, apart from the rules: what the steps of a proof do to the expressions of the trees so far.
use Rattle.std.specs.Prelude.{◌≡◌, List, [], ◌∷◌, ◌++◌, Some, slice_get, length, ◌<◌, ◌≤◌}
use Rattle.mmsyntax.specs.Tables.{Tables}
use Rattle.mmsyntax.specs.declared.statement.Frame.{Frame}
use Rattle.mmsyntax.specs.declared.statement.Assertion.{Assertion}
use Rattle.mmsyntax.specs.declared.statement.Step.{Step}
use Rattle.mmsyntax.specs.declared.statement.Step.TheVariants.{Float, Hyp, Cite}
use Rattle.derivation.specs.declared.fault.ProofFaultKind.{ProofFaultKind}
use Rattle.derivation.specs.declared.fault.ProofFaultKind.TheVariants.{TooLong, NoMemory, UnknownStep, StackShort}
use Rattle.derivation.specs.Derivation.{Expression, Citable, FloatGives, Gives, arity}
use Rattle.derivation.specs.Faults.{FailsTest, last}

-- a node of the frame over the last expressions gives one in their place
abbrev pub GivesOnLast : Tables → Assertion → Frame → List Expression → List Expression → Type 0
GivesOnLast p a f st st' =
    (below args : List Expression) × (e : Expression) × (st ≡ below ++ args) × Gives p a f args e × (st' ≡ below ++ e ∷ [])

-- one more step, over the expressions of the trees so far
abbrev pub Moves : Citable → Tables → Assertion → List Expression → Step → List Expression → Type 0
Moves lib p a st (Float i) st' = (e : Expression) × FloatGives p i e × (st' ≡ st ++ e ∷ [])
Moves lib p a st (Hyp k) st' = (e : Expression) × (slice_get a.hyps k ≡ Some e) × (st' ≡ st ++ e ∷ [])
Moves lib p a st (Cite label) st' = (f : Frame) × (lib label ≡ Some f) × GivesOnLast p a f st st'

-- the first test that a node of the frame fails over the last expressions
abbrev pub FailsOnLast : Tables → Assertion → Frame → List Expression → ProofFaultKind → Type 0
FailsOnLast p a f es StackShort = length es < arity f
FailsOnLast p a f es kind = (arity f ≤ length es) × FailsTest p a f (last (arity f) es) kind

-- want of memory, or the other kind where the fact holds
abbrev pub IsTooLongOrNoMemory : ProofFaultKind → Type 0 → Type 0
IsTooLongOrNoMemory TooLong P = P
IsTooLongOrNoMemory NoMemory P = Unit {0}
IsTooLongOrNoMemory UnknownStep P = ⊥
IsTooLongOrNoMemory _ P = ⊥
