-- What an edit tells at its end, and where its texts go.
use Rattle.std.specs.Prelude.{◌≡◌, ◌⊎◌, ℕ, Bool, true, false, List, [], ◌∷◌, ◌++◌, Option, Some, None, Result, Ok, Err, codes}
use Rattle.std.specs.Prelude.{String, is_ok, length, map, string_bytes}
use Rattle.std.specs.Option.{option_map}
use Rattle.std.specs.declared.alloc.Global.{Global}
use Rattle.std.specs.Str.Pattern.{FindsText, SplitsAroundMatch}
use Rattle.commandline.specs.declared.edit_order.Destination.{Destination}
use Rattle.commandline.specs.declared.edit_order.Destination.TheVariants as place
use Rattle.commandline.specs.declared.edit_order.Outputs.{Outputs}
use Rattle.conduct.specs.declared.manner.Manner.TheVariants.{Full}
use Rattle.conduct.specs.Telling.{IsUnwrittenTold, unprinted_said, unprinted_status}
use Rattle.conduct.specs.declared.reading.Unread.{Unread}
use Rattle.conduct.specs.declared.reading.Unread.TheVariants as unread
use Rattle.editscripts.specs.declared.replying.Replies.{Replies}
use Rattle.edittext.specs.declared.account.Account.{Account}
use Rattle.edittext.specs.declared.answering.Told.{Told as Edited}
use Rattle.edittext.specs.declared.answering.Told.TheVariants as edited
use Rattle.outside.specs.declared.reason.Reason.{Reason}
use Rattle.outside.specs.declared.trouble.Trouble.{Trouble}
use Rattle.outside.specs.Events.{Bytes, Event, prints, replaces, says, writes}
use Rattle.outside.specs.Reasons.{unread_text}
use Rattle.program.specs.Summaries.{IsNotedIf}
use Rattle.program.specs.declared.ending.NotDone.{NotDone}
use Rattle.program.specs.declared.ending.NotDone.TheVariants as not_done
use Rattle.replylines.specs.ReplyLines.{not_done_line}

-- these lines are said, one after another
abbrev pub all_said : List (String Global) → List Event
all_said lines = map (λ line. says (string_bytes line)) lines

-- the status where these lines say which transactions weren't done: 0 where all were
abbrev pub undone_status : List (String Global) → ℕ
undone_status [] = 0
undone_status (line ∷ lines) = 3

-- the status where the edited source is where it is to be, and what became of the transactions; or one of them isn't
abbrev pub status_if : Result Unit ℕ → Bool → ℕ → ℕ
status_if (Ok done) true status = status
status_if (Err failed) true status = failed
status_if written false status = 1

-- whether a text is where it is to be; the status is 1 where it isn't
abbrev pub put_by : Bool → Result Unit ℕ
put_by true = Ok tt
put_by false = Err 1

-- ---- where texts go

-- a text is in the file at a path, whole; or that can't be written, or memory ran out for it, which is said
abbrev pub IsFiled : Bytes → Bytes → List Event → Bool → Type 0
IsFiled path text es true = es ≡ writes path text None ∷ []
IsFiled path text es false =
    (why : Trouble) × (rest : List Event) × (es ≡ writes path text (Some why) ∷ rest) × IsUnwrittenTold Full path why rest 1

-- it is in place of what that file had
abbrev pub IsExchanged : Bytes → Bytes → List Event → Bool → Type 0
IsExchanged path text es true = es ≡ replaces path text None ∷ []
IsExchanged path text es false =
    (why : Trouble) × (rest : List Event) × (es ≡ replaces path text (Some why) ∷ rest) × IsUnwrittenTold Full path why rest 1

-- it is printed; or that can't be, which is said, unless the standard output is a closed pipe, and the status is that
abbrev pub IsPrintedOut : Bytes → List Event → Result Unit ℕ → Type 0
IsPrintedOut text es (Ok done) = es ≡ prints text None ∷ []
IsPrintedOut text es (Err status) =
    (why : Reason) × (es ≡ prints text (Some why) ∷ unprinted_said Full why) × (status ≡ unprinted_status Full why)

-- the source with the edits is where it is to go: it is printed, it is in a file, or in place of what the source's file had; or it isn't,
-- which is said
abbrev pub IsPutAt : Destination → Bytes → Bytes → List Event → Result Unit ℕ → Type 0
IsPutAt place.Printed source out es put = IsPrintedOut out es put
IsPutAt (place.File path) source out es put = (well : Bool) × IsFiled path.now out es well × (put ≡ put_by well)
IsPutAt place.Source source out es put = (well : Bool) × IsExchanged source out es well × (put ≡ put_by well)

-- what became of the transactions, by whether the source with the edits was written
abbrev pub replies_of : Bool → Replies → Bytes
replies_of true r = r.written.items
replies_of false r = r.unwritten.items

-- that is in the file for it, if there is one
abbrev pub ArePutReplies : Option Bytes → Option Replies → Bool → List Event → Bool → Type 0
ArePutReplies (Some path) (Some replies) written es well = IsFiled path (replies_of written replies) es well
ArePutReplies _ _ written es well = (es ≡ []) × (well ≡ true)

abbrev pub replies_path : Outputs → Option Bytes
replies_path o = option_map (λ path. path.now) o.replies

-- ---- nothing is done

-- the one line of that file tells why nothing is done, and what is said in front of that; or there is no memory for the line, which is said
abbrev pub IsPutNotDone : Option Bytes → Bytes → Bytes → List Event → Type 0
IsPutNotDone None said reason es = es ≡ []
IsPutNotDone (Some path) said reason es =
    ((well : Bool) × IsFiled path (not_done_line said reason) es well) ⊎ (es ≡ says (codes "no memory") ∷ [])

-- a line says why nothing is done, the file for what became of the transactions tells it, if there is one, and the status is 1
pub record IsNotDoneTold (path : Option Bytes) (said reason line : Bytes) (es : List Event) (status : ℕ) : Type 0 where
  pub rest : List Event
  pub each : es ≡ says line ∷ rest
  pub put : IsPutNotDone path said reason rest
  pub failed : status ≡ 1

-- why nothing is done, before there is an answer: a file isn't read, or isn't a plain one in whose place a text could be put; the system
-- gives no random numbers; or memory runs out
abbrev pub said_of : NotDone → Bytes
said_of (not_done.Unread path why) = path.now
said_of (not_done.NotPlain path) = path.now
said_of not_done.Unkeyed = []
said_of not_done.NoMemory = []

abbrev pub reason_of : NotDone → Bytes
reason_of (not_done.Unread path why) = unread_text why
reason_of (not_done.NotPlain path) = codes "not a plain file"
reason_of not_done.Unkeyed = codes "no random numbers"
reason_of not_done.NoMemory = codes "no memory"

abbrev pub line_of : NotDone → Bytes
line_of (not_done.Unread path why) = path.now ++ (codes ": " ++ unread_text why)
line_of (not_done.NotPlain path) = path.now ++ codes ": not a plain file"
line_of not_done.Unkeyed = codes "no random numbers"
line_of not_done.NoMemory = codes "no memory"

-- a file that isn't read, or want of memory
abbrev pub not_read : Unread → NotDone
not_read (unread.File path why) = not_done.Unread path why
not_read unread.NoMemory = not_done.NoMemory

-- a line in two parts, which its first colon and space part; without these all of it is the reason
abbrev pub IsCut : Bytes → Bytes → Bytes → Type 0
IsCut line said reason =
    SplitsAroundMatch (FindsText (codes ": ")) line said reason
    ⊎ (FindsText (codes ": ") line None × (said ≡ []) × (reason ≡ line))

-- ---- each answer

-- it is said which transactions weren't done, and of which labels that are gone a comment speaks; then the source with the edits goes where
-- it is to go, which is noted where it is there, and then what became of each transaction
pub record IsPrintedTold (o : Outputs) (source out : Bytes) (account : Account) (es : List Event) (status : ℕ) : Type 0 where
  pub put : List Event
  pub noted : List Event
  pub rest : List Event
  pub each : es ≡ all_said account.undone.items ++ (all_said account.spoken.items ++ (put ++ (noted ++ rest)))
  pub written : Result Unit ℕ
  pub is_put : IsPutAt o.place source out put written
  pub is_noted : IsNotedIf (is_ok written) o.place source (length out) account noted
  pub well : Bool
  pub replied : ArePutReplies (replies_path o) account.replies (is_ok written) rest well
  pub ends : status ≡ status_if written well (undone_status account.undone.items)

-- it is said which weren't done, and just what became of them goes anywhere: the status is 3
pub record IsUndoneTold (o : Outputs) (account : Account) (es : List Event) (status : ℕ) : Type 0 where
  pub rest : List Event
  pub each : es ≡ all_said account.undone.items ++ rest
  pub well : Bool
  pub replied : ArePutReplies (replies_path o) account.replies false rest well
  pub ends : status ≡ status_if (Ok tt) well 3

-- so it is, and a line says why nothing is printed: the status is 1
pub record IsUnfinishedTold (o : Outputs) (account : Account) (line : Bytes) (es : List Event) (status : ℕ) : Type 0 where
  pub rest : List Event
  pub each : es ≡ all_said account.undone.items ++ (says line ∷ rest)
  pub well : Bool
  pub replied : ArePutReplies (replies_path o) account.replies false rest well
  pub ends : status ≡ 1

-- what is answered is told
abbrev pub IsEditTold : Outputs → Bytes → Edited → List Event → ℕ → Type 0
IsEditTold o source (edited.Printed out account) es status = IsPrintedTold o source out.items account es status
IsEditTold o source (edited.Undone account) es status = IsUndoneTold o account es status
IsEditTold o source (edited.Unfinished account line) es status = IsUnfinishedTold o account (string_bytes line) es status
IsEditTold o source (edited.Refused line) es status =
    (said : Bytes) × (reason : Bytes) × IsCut (string_bytes line) said reason
    × IsNotDoneTold (replies_path o) said reason (string_bytes line) es status
