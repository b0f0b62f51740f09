-- What became of a transaction, as a line of JSON.
use Rattle.std.specs.Prelude.{ℕ, Bool, false, List, [], ◌∷◌, ◌++◌, ◌-◌, Option, Some, None, codes, map, slice_get}
use Rattle.serde_json.specs.Data.{Data, boolean, unsigned, number, string, array, object, Members, no_members, member}
use Rattle.serde_json.specs.View.{items_of}
use Rattle.serde_json.specs.Written.{compact_text}
use Rattle.mmsyntax.specs.Tables.{Tables}
use Rattle.library.specs.Reasons.{printed_reason}
use Rattle.library.specs.declared.command.Command.{Command}
use Rattle.library.specs.declared.command.Reply.{Reply}
use Rattle.library.specs.declared.command.Reply.TheVariants.{Done}
use Rattle.historytext.specs.Layout.{reply_text}
use Rattle.checking.specs.FaultLines.{shown_label}
use Rattle.transaction.specs.declared.outcome.Outcome.{Outcome}
use Rattle.transaction.specs.declared.outcome.Outcome.TheVariants.{Committed, Read, Refused, Conflict, StoreFull, NumbersUsed, TooManyCommands, NoMemory}
use Rattle.replylines.specs.CommandTexts.{command_text}

-- ---- what a line says

-- an object with these members, in the order of their names
abbrev pub members_of : List (List ℕ × Data) → Members
members_of [] = no_members
members_of (m ∷ ms) = member m.0 m.1 (members_of ms)

-- a reply: `done`, or the lines that a report has for it
abbrev pub told_reply : Tables → Reply → List ℕ
told_reply t Done = codes "done"
told_reply t reply = shown_label (reply_text t reply)

abbrev pub replies_data : Tables → List Reply → Data
replies_data t replies = array (items_of (map (λ reply. string (told_reply t reply)) replies))

-- the command that is refused, if there is one
abbrev pub said_command : Option Command → List ℕ
said_command None = []
said_command (Some command) = command_text command

-- an entry of the history, with its number. Each line says whether the database with the edits was written
abbrev pub committed_data : Bool → List ℕ → ℕ → ℕ → Data → Data
committed_data written path line n replies =
    object (members_of (
    (codes "line", number (unsigned line))
    ∷ (codes "number", number (unsigned n))
    ∷ (codes "outcome", string (codes "committed"))
    ∷ (codes "replies", replies)
    ∷ (codes "script", string path)
    ∷ (codes "written", boolean written) ∷ []))

-- it only read, behind so many entries of the history
abbrev pub read_data : Bool → List ℕ → ℕ → ℕ → Data → Data
read_data written path line place replies =
    object (members_of (
    (codes "line", number (unsigned line))
    ∷ (codes "outcome", string (codes "read"))
    ∷ (codes "place", number (unsigned place))
    ∷ (codes "replies", replies)
    ∷ (codes "script", string path)
    ∷ (codes "written", boolean written) ∷ []))

-- one of its commands is refused, behind so many entries of the history
abbrev pub refused_data : Bool → List ℕ → ℕ → ℕ → ℕ → List ℕ → List ℕ → Data
refused_data written path line place index said reason =
    object (members_of (
    (codes "command", number (unsigned index))
    ∷ (codes "line", number (unsigned line))
    ∷ (codes "outcome", string (codes "refused"))
    ∷ (codes "place", number (unsigned place))
    ∷ (codes "reason", string reason)
    ∷ (codes "said", string said)
    ∷ (codes "script", string path)
    ∷ (codes "written", boolean written) ∷ []))

-- it did nothing for another cause
abbrev pub undone_data : Bool → List ℕ → ℕ → List ℕ → Data
undone_data written path line cause =
    object (members_of (
    (codes "line", number (unsigned line))
    ∷ (codes "outcome", string cause)
    ∷ (codes "script", string path)
    ∷ (codes "written", boolean written) ∷ []))

-- What became of a transaction with these commands, which begins on a line of the script at a path. Lines, numbers and commands count from
-- 1. No outcome of a run is a conflict
abbrev pub reply_data : Bool → Tables → List ℕ → ℕ → List Command → Outcome → Data
reply_data written t path line commands (Committed n replies) = committed_data written path line n (replies_data t replies)
reply_data written t path line commands (Read place replies) = read_data written path line place (replies_data t replies)
reply_data written t path line commands (Refused place index reason) =
    refused_data written path line place index (said_command (slice_get commands (index - 1))) (printed_reason reason)
reply_data written t path line commands (Conflict place cell word before) = undone_data written path line (codes "conflict")
reply_data written t path line commands StoreFull = undone_data written path line (codes "store full")
reply_data written t path line commands NumbersUsed = undone_data written path line (codes "numbers used")
reply_data written t path line commands TooManyCommands = undone_data written path line (codes "too many commands")
reply_data written t path line commands NoMemory = undone_data written path line (codes "no memory")

-- ---- the line

-- JSON without a space, and the end of the line
abbrev pub json_line : Data → List ℕ
json_line d = compact_text d ++ 10 ∷ []

abbrev pub reply_line : Bool → Tables → List ℕ → ℕ → List Command → Outcome → List ℕ
reply_line written t path line commands outcome = json_line (reply_data written t path line commands outcome)

-- nothing was done, for a reason; and what is said in front of that, as a path
abbrev pub not_done_data : List ℕ → List ℕ → Data
not_done_data said reason =
    object (members_of (
    (codes "outcome", string (codes "not done"))
    ∷ (codes "reason", string reason)
    ∷ (codes "said", string said)
    ∷ (codes "written", boolean false) ∷ []))

abbrev pub not_done_line : List ℕ → List ℕ → List ℕ
not_done_line said reason = json_line (not_done_data said reason)
