-- What is done for an order to check, to run or to replay.
use Rattle.std.specs.Prelude.{◌≡◌, ◌⊎◌, ℕ, Bool, List, [], ◌∷◌, ◌++◌, Option, Some, None, codes, length, string_bytes}
use Rattle.checking.specs.declared.fault.Fault.{Fault}
use Rattle.checking.specs.declared.task.Task.{Task}
use Rattle.checking.specs.Tasks.{TakesTexts}
use Rattle.conduct.specs.declared.manner.Manner.TheVariants.{Short}
use Rattle.conduct.specs.Reading.{AreReadThen}
use Rattle.conduct.specs.Clashes.{clashes_with}
use Rattle.conduct.specs.Comparing.{Clash, AreApartThen}
use Rattle.conduct.specs.Telling.{IsPrinted, IsSaid, IsUnkeyed, IsUnwrittenTold}
use Rattle.jobs.specs.declared.answering.Answered.{Answered}
use Rattle.jobs.specs.declared.answering.Answered.TheVariants.{Done, Refused}
use Rattle.jobs.specs.declared.job.Job.{Job}
use Rattle.jobs.specs.declared.job.RunOptions.{RunOptions}
use Rattle.jobs.specs.Jobs.{IsFaultOf, AnswersItsOwn}
use Rattle.jobs.specs.Tasks.{Answers, IsJobOf, IsLineOf, IsToldBy, options_asked}
use Rattle.outside.specs.declared.trouble.Trouble.{Trouble}
use Rattle.outside.specs.Events.{Bytes, Event, writes}

-- a history is written to its file, and then the text is printed; or that file can't be written, or memory runs out as it is, which is
-- said, and nothing is printed
abbrev pub IsWritten : Option Bytes → Bytes → Bytes → List Event → ℕ → Type 0
IsWritten None history out es status = IsPrinted Short out es status
IsWritten (Some path) history out es status =
    ((rest : List Event) × (es ≡ writes path history None ∷ rest) × IsPrinted Short out rest status)
    ⊎ ((why : Trouble) × (rest : List Event) × (es ≡ writes path history (Some why) ∷ rest) × IsUnwrittenTold Short path why rest status)

-- what a job prints, or the line of its fault
abbrev pub IsTold : Option Bytes → Answered → List Event → ℕ → Type 0
IsTold history (Done printed) es status = IsWritten history printed.history.items printed.out.items es status
IsTold history (Refused line) es status = IsSaid (string_bytes line) es status

-- the answer to a job of these paths
pub record IsAnswer (paths : List Bytes) (options : RunOptions) (job : Job) (told : Answered) : Type 0 where
  pub answers : Answers paths options job told
  pub refused : (f : Fault) → IsFaultOf options job f → IsLineOf paths f told
  pub own : AnswersItsOwn job (IsToldBy told)

-- the answer to a job is told
abbrev pub IsJobAnswered : List Bytes → Option Bytes → RunOptions → Job → List Event → ℕ → Type 0
IsJobAnswered paths history options job es status =
    (told : Answered) × IsAnswer paths options job told × IsTold history told es status

-- the texts are the job of a task, whose answer is told; or the system gives no random numbers, which is said; or so many texts aren't a
-- job
abbrev pub IsAnswered : Bool → Task → List Bytes → Option Bytes → List Bytes → List Event → ℕ → Type 0
IsAnswered keyed task paths history texts es status =
    ((job : Job) × IsJobOf task texts job × IsJobAnswered paths history (options_asked task) job es status)
    ⊎ (IsUnkeyed keyed es status
    ⊎ ((TakesTexts task (length texts) → ⊥) × IsSaid (codes "the command line cannot be read") es status))

-- the files are read, and then the job of their texts is answered
abbrev pub IsReadAndAnswered : Bool → Task → List Bytes → Option Bytes → List Event → ℕ → Type 0
IsReadAndAnswered keyed task paths history es status = AreReadThen Short paths (IsAnswered keyed task paths history) es status

-- the history would be written over one of the files that are read
abbrev pub history_clashes : Option Bytes → List Bytes → List Clash
history_clashes (Some path) paths = clashes_with path (λ other. path ++ codes ": cannot write") paths
history_clashes None paths = []

-- that is asked first, and nothing is read where it is so; else so it goes
abbrev pub IsFollowed : Bool → Task → List Bytes → Option Bytes → List Event → ℕ → Type 0
IsFollowed keyed task paths history es status =
    AreApartThen (history_clashes history paths) (IsReadAndAnswered keyed task paths history) es status
