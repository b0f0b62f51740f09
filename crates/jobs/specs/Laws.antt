-- What is true of every fault of a job, and of every text that is accepted.
use Rattle.std.specs.Prelude.{◌≡◌, ◌≤◌, ℕ, true, List, Vec, length}
use Rattle.std.specs.declared.alloc.Global.{Global}
use Rattle.derivation.specs.declared.fault.ProofFault.{ProofFault}
use Rattle.jobs.specs.declared.job.Job.{Job}
use Rattle.jobs.specs.declared.job.Job.TheVariants.{Check, Replay}
use Rattle.checking.specs.declared.fault.Fault.{Fault}
use Rattle.checking.specs.declared.fault.Fault.TheVariants.{Proof}
use Rattle.checking.specs.FaultLines.{shown_label}
use Rattle.export.specs.Exported.{Accepts}
use Rattle.checking.specs.Checks.{Bytes}
use Rattle.jobs.specs.declared.job.RunOptions.{RunOptions}
use Rattle.jobs.specs.Jobs.{Room, IsRun, IsFaultOf}
use Rattle.mmsyntax.specs.declared.limits.TheConstants.{MOST_BYTES}

-- the label in the fault of a job is printed as it is
abbrev pub FaultLabelsAreShown : Type 0
FaultLabelsAreShown =
    (options : RunOptions) (j : Job) (label : List ℕ) (fault : ProofFault) → IsFaultOf options j (Proof label fault)
    → shown_label label ≡ label

-- a check of an accepted text of at most 16,777,216 bytes has no fault
abbrev pub AcceptedTextsHaveNoFault : Type 0
AcceptedTextsHaveNoFault =
    (options : RunOptions) (text : Vec ℕ Global) (f : Fault) → Accepts text.items → length text.items ≤ MOST_BYTES
    → IsFaultOf options (Check text) f → ⊥

-- nor has a replay of the history that a run gave where it was asked for, over the same database, where its text has at most 16,777,216
-- bytes
abbrev pub RunsHaveNoFaultAgain : Type 0
RunsHaveNoFaultAgain =
    (options : RunOptions) (db history : Vec ℕ Global) (texts : List Bytes) (workers : ℕ) (room : Room) (out : Bytes) (f : Fault)
    → IsRun db.items texts workers room true out history.items
    → length history.items ≤ MOST_BYTES → IsFaultOf options (Replay db history) f → ⊥
