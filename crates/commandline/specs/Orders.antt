-- What a command line asks for, by what its parser found in the words.
use Rattle.std.specs.Prelude.{◌≡◌, ℕ, List, [], ◌∷◌, ◌++◌, Option, Some, None, IsNone, codes, is_some}
use Rattle.std.specs.Str.Parse.{IsNumeral, digits_value, without_leading_plus}
use Rattle.clap.specs.Words.{Row, Text, all_of, first_of, one_of}
use Rattle.checking.specs.declared.task.Task.{Task}
use Rattle.checking.specs.declared.task.Task.TheVariants.{Check, Run, Replay}
use Rattle.checking.specs.Tasks.{IsWithin}

-- the text writes this number in decimal digits, of which a plus may stand in front
abbrev pub IsNumber : Option Text → ℕ → Type 0
IsNumber (Some text) n = IsNumeral 10 (without_leading_plus text) × (n ≡ digits_value 10 (without_leading_plus text))
IsNumber None n = ⊥

-- so it does, where there is a text; and there is no number where there is none
abbrev pub IsNumberIfGiven : Option Text → Option ℕ → Type 0
IsNumberIfGiven text (Some n) = IsNumber text n
IsNumberIfGiven text None = IsNone text

-- the numbers of a run: its workers, and its room where one is given, within their limits
pub record HasLimits (rows : List Row) (workers : ℕ) (room : Option ℕ) : Type 0 where
  pub workers_given : IsNumber (one_of (codes "workers") rows) workers
  pub room_given : IsNumberIfGiven (one_of (codes "room") rows) room
  pub within : IsWithin workers room

-- the task of a subcommand: that of its name, and a run has the numbers that are given, and its history's text is asked for where a file is
-- given for it
abbrev pub IsTaskOf : Text → List Row → Task → Type 0
IsTaskOf name rows Check = name ≡ codes "check"
IsTaskOf name rows (Run workers room asked) =
    (name ≡ codes "run") × HasLimits rows workers room × (asked ≡ is_some (first_of (codes "history") rows))
IsTaskOf name rows Replay = name ≡ codes "replay"

abbrev pub AsksFor : Option (Text × List Row) → Task → Type 0
AsksFor (Some p) task = IsTaskOf p.0 p.1 task
AsksFor None task = ⊥

-- none, or the one that there is; none, or all that there are
abbrev pub listed : Option Text → List Text
listed (Some text) = text ∷ []
listed None = []

abbrev pub all_listed : Option (List Text) → List Text
all_listed (Some texts) = texts
all_listed None = []

-- the paths of the files that a task reads, in order: the database, then all the scripts of a run, or the history of a replay
abbrev pub paths_of : Task → List Row → List Text
paths_of Check rows = listed (first_of (codes "DB") rows)
paths_of (Run workers room asked) rows = listed (first_of (codes "DB") rows) ++ all_listed (all_of (codes "SCRIPT") rows)
paths_of Replay rows = listed (first_of (codes "DB") rows) ++ listed (first_of (codes "HISTORY") rows)

-- where a run writes its history
abbrev pub history_of : Task → List Row → Option Text
history_of (Run workers room asked) rows = first_of (codes "history") rows
history_of _ rows = None

abbrev pub rows_in : Option (Text × List Row) → List Row
rows_in (Some p) = p.1
rows_in None = []

-- the order of a subcommand
pub record IsOrder (found : Option (Text × List Row)) (task : Task) (paths : List Text) (history : Option Text) : Type 0 where
  pub asked : AsksFor found task
  pub read : paths ≡ paths_of task (rows_in found)
  pub written : history ≡ history_of task (rows_in found)

-- the workers and the room of a task are within their limits
abbrev pub AsksWithin : Task → Type 0
AsksWithin (Run workers room asked) = IsWithin workers room
AsksWithin _ = Unit {0}
