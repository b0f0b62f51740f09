-- What the program does for a command line, event by event, and the status that it ends with.
use Rattle.std.specs.Prelude.{◌≡◌, ◌≢◌, ◌⊎◌, ℕ, Bool, List, Some, None, [], ◌∷◌, ◌++◌, Option, Result, Ok, Err, All, codes}
use Rattle.checking.specs.declared.task.Task.{Task}
use Rattle.clap.specs.declared.error.Error.{Error}
use Rattle.clap.specs.declared.error.kind.ErrorKind.TheVariants.{DisplayHelp, DisplayVersion, OutOfMemory}
use Rattle.clap.specs.Words.{Row, Text, HasKind, fault_of, kind_of, subcommand_of}
use Rattle.commandline.specs.CommandLine.{program_app}
use Rattle.commandline.specs.Orders.{AsksFor, IsOrder}
use Rattle.commandline.specs.TakeOrders.{AsksToTake, IsTakeOrder}
use Rattle.commandline.specs.GiveOrders.{AsksToGive}
use Rattle.commandline.specs.VerifyOrders.{AsksToVerify}
use Rattle.commandline.specs.EditOrders.{AsksToEdit, IsEditOrder}
use Rattle.commandline.specs.declared.edit_order.Allowed.{Allowed}
use Rattle.commandline.specs.declared.edit_order.Outputs.{Outputs}
use Rattle.conduct.specs.Gives.{IsGiveDone}
use Rattle.conduct.specs.Jobs.{IsFollowed}
use Rattle.conduct.specs.Takes.{IsTakeDone}
use Rattle.conduct.specs.declared.manner.Manner.TheVariants.{Full}
use Rattle.conduct.specs.Telling.{IsSaid, unprinted_said, unprinted_status}
use Rattle.conduct.specs.Verifies.{IsVerifyDone}
use Rattle.outside.specs.declared.reason.Reason.{Reason}
use Rattle.outside.specs.declared.trouble.Trouble.{Trouble}
use Rattle.outside.specs.declared.trouble.Trouble.TheVariants as trouble
use Rattle.outside.specs.Events.{Bytes, Event, IsQuiet, says, shows}
use Rattle.program.specs.Edits.{IsEditDone}

-- the parser's text is shown, and the status is 0 for help and the version, and 2 for all else; or it can't be, which is said, unless that
-- goes to a closed pipe
abbrev pub IsShown : Error → List Event → ℕ → Type 0
IsShown e es status =
    ((es ≡ shows e None ∷ []) × (((kind_of e ≡ DisplayHelp) ⊎ (kind_of e ≡ DisplayVersion)) → status ≡ 0)
    × (kind_of e ≢ DisplayHelp → kind_of e ≢ DisplayVersion → status ≡ 2))
    ⊎ ((why : Reason) × (es ≡ shows e (Some why) ∷ unprinted_said Full why) × (status ≡ unprinted_status Full why))

-- a subcommand with an order, which is followed
abbrev pub IsOrdered : Bool → Option (Text × List Row) → List Event → ℕ → Type 0
IsOrdered keyed found es status =
    (task : Task) × (paths : List Bytes) × (history : Option Bytes) × IsOrder found task paths history
    × IsFollowed keyed task paths history es status

-- a subcommand with an order to take, which is done
abbrev pub IsTakeOrdered : Bool → Option (Text × List Row) → List Event → ℕ → Type 0
IsTakeOrdered keyed found es status =
    (path : Bytes) × (labels : List Bytes) × (from : Option Bytes) × (to : Option Bytes) × IsTakeOrder found path labels from to
    × IsTakeDone keyed path labels from to es status

-- a subcommand with an order to give back, which is done
abbrev pub IsGiveOrdered : Bool → Option (Text × List Row) → List Event → ℕ → Type 0
IsGiveOrdered keyed found es status =
    (source : Bytes) × (library : Bytes) × (history : Bytes) × AsksToGive found source library history
    × IsGiveDone keyed source library history es status

-- a subcommand with an order to verify, which is done, however many check
abbrev pub IsVerifyOrdered : Bool → Option (Text × List Row) → List Event → ℕ → Type 0
IsVerifyOrdered keyed found es status =
    (path : Bytes) × (workers : Option ℕ) × AsksToVerify found path workers × IsVerifyDone keyed path es status

-- a subcommand with an order to edit, which is done
abbrev pub IsEditOrdered : Bool → Option (Text × List Row) → List Event → ℕ → Type 0
IsEditOrdered keyed found es status =
    (paths : List Bytes) × (workers : ℕ) × (room : Option ℕ) × (outputs : Option Outputs) × (allowed : Allowed)
    × IsEditOrder found paths workers room outputs allowed × IsEditDone keyed paths workers room outputs allowed es status

-- no subcommand, or one that asks for no task, and for nothing to take, to give back, to verify or to edit
abbrev pub IsUnasked : Option (Text × List Row) → List Event → ℕ → Type 0
IsUnasked found es status =
    ((task : Task) → AsksFor found task → ⊥) × ((path : Bytes) → AsksToTake found path → ⊥)
    × ((source library history : Bytes) → AsksToGive found source library history → ⊥)
    × ((path : Bytes) (workers : Option ℕ) → AsksToVerify found path workers → ⊥)
    × ((path : Bytes) (workers : ℕ) (room : Option ℕ) → AsksToEdit found path workers room → ⊥)
    × IsSaid (codes "the command line cannot be read") es status

abbrev pub IsMatched : Bool → Option (Text × List Row) → List Event → ℕ → Type 0
IsMatched keyed found es status =
    IsOrdered keyed found es status ⊎ (IsTakeOrdered keyed found es status
    ⊎ (IsGiveOrdered keyed found es status ⊎ (IsVerifyOrdered keyed found es status
    ⊎ (IsEditOrdered keyed found es status ⊎ IsUnasked found es status))))

-- the words are none of the program's command lines, or ask for help or the version, which the parser tells by its error
abbrev pub IsUsage : List Text → List Event → ℕ → Type 0
IsUsage words es status = (e : Error) × HasKind (fault_of program_app words) e × (kind_of e ≢ OutOfMemory) × IsShown e es status

abbrev pub IsObeyed : Bool → List Text → List Event → ℕ → Type 0
IsObeyed keyed words es status = IsUsage words es status ⊎ IsMatched keyed (subcommand_of program_app words) es status

-- memory ran out before anything was written, printed or said: that is said, and the status is 1
abbrev pub IsOutOfMemory : List Event → ℕ → Type 0
IsOutOfMemory es status = (front : List Event) × (es ≡ front ++ says (codes "no memory") ∷ []) × All IsQuiet front × (status ≡ 1)

-- what the program does for the words of a command line, with keys or without, and its status
abbrev pub Obeys : Bool → List Text → List Event → ℕ → Type 0
Obeys keyed words es status = IsObeyed keyed words es status ⊎ IsOutOfMemory es status

-- why there are no words
abbrev pub no_words : Trouble → Bytes
no_words (trouble.Refused why) = codes "the command line cannot be read"
no_words trouble.NoMemory = codes "no memory"

-- what the program does for the words of its command line; or where it has none, which is said, and the status is 1
abbrev pub IsRun : Bool → Result (List Text) Trouble → List Event → ℕ → Type 0
IsRun keyed (Ok words) es status = Obeys keyed words es status
IsRun keyed (Err why) es status = IsSaid (no_words why) es status
