-- What is asked of texts, and what is answered.
use Rattle.std.specs.Prelude.{◌≡◌, ◌≢◌, ◌⊎◌, ℕ, false, Option, is_none, unwrap_or, List, [], ◌∷◌, map, string_bytes}
use Rattle.jobs.specs.declared.job.Job.{Job}
use Rattle.jobs.specs.declared.job.RunOptions.{RunOptions}
use Rattle.jobs.specs.declared.job.Job.TheVariants as job
use Rattle.checking.specs.declared.fault.Fault.{Fault}
use Rattle.checking.specs.declared.fault.Fault.TheVariants.{NoMemory}
use Rattle.checking.specs.declared.task.Task.{Task}
use Rattle.checking.specs.declared.task.Task.TheVariants.{Check, Run, Replay}
use Rattle.jobs.specs.declared.answering.Answered.{Answered}
use Rattle.jobs.specs.declared.running.Plan.{Plan}
use Rattle.jobs.specs.declared.answering.Answered.TheVariants.{Done, Refused}
use Rattle.checking.specs.FaultLines.{line_of, fault_text}
use Rattle.checking.specs.Checks.{Bytes}
use Rattle.jobs.specs.Jobs.{DoneAsAsked, IsFaultOf, IsLackOf}

-- ---- jobs of texts

-- the texts of a job: its database, then all its scripts in order, or its history
abbrev pub texts_of : Job → List Bytes
texts_of (job.Check db) = db.items ∷ []
texts_of (job.Run db scripts workers room) = db.items ∷ map (λ t. t.items) scripts.items
texts_of (job.Replay db history) = db.items ∷ history.items ∷ []

-- for how many words the store of a run has room at least that isn't given a room
abbrev pub least_room : ℕ
least_room = 1048576

-- the job does what the task asks for: a run by so many workers, with the room that is given, or else with the least
abbrev pub AsksFor : Task → Job → Type 0
AsksFor Check (job.Check db) = Unit {0}
AsksFor (Run workers room asked) (job.Run db scripts many words) = (many ≡ workers) × (words ≡ unwrap_or room least_room)
AsksFor Replay (job.Replay db history) = Unit {0}
AsksFor _ _ = ⊥

-- the job of a task on exactly these texts
pub record IsJobOf (asked : Task) (given : List Bytes) (j : Job) : Type 0 where
  pub task : AsksFor asked j
  pub texts : texts_of j ≡ given

-- what is asked of a run besides: a store that isn't given a room may have more than the least, and the history's text may be wanted
abbrev pub options_asked : Task → RunOptions
options_asked (Run workers room asked) = record { may_grow = is_none room; history = asked }
options_asked _ = record { may_grow = false; history = false }

-- how a run is done by so many workers, with a room that is given or isn't, whose history's text isn't wanted
abbrev pub plan_asked : ℕ → Option ℕ → Plan
plan_asked workers room = record {
  workers = workers;
  room = unwrap_or room least_room;
  options = record { may_grow = is_none room; history = false };
}

-- ---- what is answered

-- what the job prints; or the line of its fault, behind the path of the text that has it; or why it came to no end; or that there is no
-- memory
abbrev pub Answers : List Bytes → RunOptions → Job → Answered → Type 0
Answers paths options j (Done printed) = DoneAsAsked options j printed
Answers paths options j (Refused line) =
    (fault : Fault) × (fault ≢ NoMemory → IsFaultOf options j fault ⊎ IsLackOf j fault) × (string_bytes line ≡ line_of paths fault)

-- the line of a fault that the job has, unless memory ran out
abbrev pub IsLineOf : List Bytes → Fault → Answered → Type 0
IsLineOf paths fault (Done printed) = ⊥
IsLineOf paths fault (Refused line) = (string_bytes line ≡ line_of paths fault) ⊎ (string_bytes line ≡ fault_text NoMemory)

-- this is printed, unless memory ran out, which is told
abbrev pub IsToldBy : Answered → Bytes → Type 0
IsToldBy (Done printed) out = printed.out.items ≡ out
IsToldBy (Refused line) out = string_bytes line ≡ fault_text NoMemory
