-- What a job prints, and which fault it has.
use Rattle.std.specs.Prelude.{◌≡◌, ◌≢◌, ◌<◌, ◌≤◌, ℕ, suc, List, [], ◌++◌, length, map, max}
use Rattle.std.specs.Prelude.{Bool, true, IsTrue, if◌then◌else◌}
use Rattle.std.specs.Prelude.{Some, Result, Ok, Err}
use Rattle.mmtext.specs.declared.fault.FaultKind.TheVariants.{NoMemory as OutOfMemory}
use Rattle.mmsyntax.specs.Tables.{Contents}
use Rattle.library.specs.Library.{Listed, Verifies, opening}
use Rattle.library.specs.declared.history.Entry.{Entry}
use Rattle.library.specs.Histories.{seen_entry, after_front}
use Rattle.plaincells.specs.Measures.{all_bodies_length}
use Rattle.rooms.specs.Rooms.{room_for}
use Rattle.transaction.specs.declared.outcome.Outcome.{Outcome}
use Rattle.transaction.specs.Members.{Home}
use Rattle.editing.specs.Edits.{IsEditedFrom}
use Rattle.historytext.specs.Grammar.{SpellsHistory}
use Rattle.historytext.specs.Layout.{history_text}
use Rattle.export.specs.Exported.{Accepts, IsAccepted}
use Rattle.jobs.specs.declared.job.Job.{Job}
use Rattle.jobs.specs.declared.job.Job.TheVariants.{Check, Run, Replay}
use Rattle.jobs.specs.declared.job.Printed.{Printed}
use Rattle.jobs.specs.declared.job.RunOptions.{RunOptions}
use Rattle.checking.specs.declared.fault.Fault.{Fault}
use Rattle.checking.specs.declared.fault.Fault.TheVariants.{Text, StoreFull, NoThread, NoMemory}
use Rattle.checking.specs.Outcomes.{program_setting}
use Rattle.checking.specs.Tasks.{IsWithin}
use Rattle.checking.specs.Checks.{Bytes, Orders, library_lines, replayed_lines, AreScripts, IsChecked, ok_line, IsCheck, IsReplay}
use Rattle.checking.specs.Checks.{IsFirstFaultyScript, IsDatabaseFault, IsReplayFault}
use Rattle.reports.specs.Reports.{report_text}
use Rattle.mmsyntax.specs.declared.limits.TheConstants.{MOST_BYTES}

-- ---- what is printed

-- a room of so many words, which may be larger, where the run can need more
pub record Room : Type 0 where
  pub words : ℕ
  pub may_grow : Bool

-- the room of a run: the one that was asked for, or what the run can need, where that is more and it may grow
abbrev pub room_of : Room → Contents → List Orders → ℕ
room_of room contents scripts = if room.may_grow then max room.words (room_for contents scripts) else room.words

-- what is asked for by the room of a job, and what is asked of its run besides
abbrev pub room_asked : RunOptions → ℕ → Room
room_asked options words = record { words = words; may_grow = options.may_grow }

-- the scripts were run by so many workers over the library of a database, whose bodies the store has room for: these are their outcomes in
-- this history, which is legal from the opening library and within the limits; the library is the one after it; and the sessions of the
-- workers tell why they gave up what they gave up. So a full store is told only where a staging of the session that ran the script was
-- refused in the store of this room
pub record IsWorked (contents : Contents) (workers room : ℕ) (scripts : List Orders) (rows : List (List Outcome)) (history : List Entry)
    (library : Listed) : Type 0 where
  pub fits : all_bodies_length contents.assertions ≤ room
  pub home : Home
  pub of_database : home.given.database.value ≡ contents
  pub of_room : home.words.room ≡ room
  pub of_workers : home.sessions ≡ workers
  pub edited : IsEditedFrom (program_setting contents) (opening contents) home scripts rows history library

-- the report of what became of all transactions, and the library after them, whose text is accepted; and, where it is asked for, the text
-- of the history, which spells it. After each front of it, too, the library verifies
pub record PrintsRun (contents : Contents) (workers : ℕ) (room : Room) (asked : Bool) (scripts : List Orders) (out history : Bytes)
    : Type 0 where
  pub rows : List (List Outcome)
  pub entries : List Entry
  pub library : Listed
  pub worked : IsWorked contents workers (room_of room contents scripts) scripts rows entries library
  pub fronts : (k : ℕ) → Verifies (program_setting contents)
      (after_front (program_setting contents) (opening contents) (map seen_entry entries) k)
  pub prints : out ≡ report_text contents.prelude rows ++ library_lines library
  pub accepted : IsAccepted library
  pub kept : history ≡ (if asked then history_text contents.prelude entries else [])
  pub spelled : IsTrue asked → SpellsHistory contents.prelude history entries

-- the database is read as it is spelled, and its proofs check; the scripts are read as they are spelled; and what is printed is that of
-- their run, whose history's text is asked for or not
pub record IsRun (db : Bytes) (texts : List Bytes) (workers : ℕ) (room : Room) (asked : Bool) (out history : Bytes) : Type 0 where
  pub contents : Contents
  pub checked : IsChecked db contents
  pub scripts : List Orders
  pub ordered : AreScripts contents.prelude texts scripts
  pub printed : PrintsRun contents workers room asked scripts out history

-- the workers and the room of a run are within their limits
abbrev pub AreWithin : Job → Type 0
AreWithin (Run db texts workers room) = IsWithin workers (Some room)
AreWithin _ = Unit {0}

abbrev pub DoneAsAsked : RunOptions → Job → Printed → Type 0
DoneAsAsked options (Check db) p = IsCheck db.items p.out.items × (p.history.items ≡ [])
DoneAsAsked options (Run db texts workers room) p =
    IsRun db.items (map (λ t. t.items) texts.items) workers (room_asked options room) options.history p.out.items p.history.items
DoneAsAsked options (Replay db history) p = IsReplay db.items history.items p.out.items × (p.history.items ≡ [])

-- ---- what the program answers to its own texts

-- of at most 16,777,216 bytes each: to a check of a text that is accepted, as every export is, `ok` is answered; to a replay of the history
-- that a run over the same database gave where it was asked for, the library of that run
abbrev pub AnswersItsOwn : Job → (Bytes → Type 0) → Type 0
AnswersItsOwn (Check db) is_answered = (a : Accepts db.items) → length db.items ≤ MOST_BYTES → is_answered (ok_line a.database)
AnswersItsOwn (Run db texts workers room) is_answered = Unit {0}
AnswersItsOwn (Replay db history) is_answered =
    (texts : List Bytes) (workers : ℕ) (room : Room) (out : Bytes) (run : IsRun db.items texts workers room true out history.items)
    → length history.items ≤ MOST_BYTES
    → is_answered (replayed_lines (length run.printed.entries) run.printed.library)

-- this is printed, unless memory ran out
abbrev pub IsPrintedBy : Result Printed Fault → Bytes → Type 0
IsPrintedBy (Ok printed) out = printed.out.items ≡ out
IsPrintedBy (Err f) out = f ≡ NoMemory

-- ---- faults

-- the fault of a run: that of its database, or the fault of the first script that has one, the k-th at the place k; or, where all are read,
-- that the bodies of the database's assertions have more words than the room
abbrev pub IsRunFault : Bytes → List Bytes → Room → Fault → Type 0
IsRunFault db texts room (Text (suc k) f) =
    ((contents : Contents) × IsChecked db contents × IsFirstFaultyScript contents.prelude texts k f) × (f.kind ≢ OutOfMemory)
IsRunFault db texts room StoreFull =
    (contents : Contents) × (scripts : List Orders) × IsChecked db contents × AreScripts contents.prelude texts scripts
    × (room_of room contents scripts < all_bodies_length contents.assertions)
IsRunFault db texts room f = IsDatabaseFault db f

-- why a run that has no fault may come to no end: a thread for one of two workers or more can't be had. No number is missing in its
-- history, and no lock is held at its end
abbrev pub IsRunLack : ℕ → Fault → Type 0
IsRunLack workers NoThread = 2 ≤ workers
IsRunLack workers _ = ⊥

-- the first fault that a job has
abbrev pub IsFaultOf : RunOptions → Job → Fault → Type 0
IsFaultOf options (Check db) f = IsDatabaseFault db.items f
IsFaultOf options (Run db texts workers room) f = IsRunFault db.items (map (λ t. t.items) texts.items) (room_asked options room) f
IsFaultOf options (Replay db history) f = IsReplayFault db.items history.items f

-- why a job that has none may come to no end
abbrev pub IsLackOf : Job → Fault → Type 0
IsLackOf (Run db texts workers room) f = IsRunLack workers f
IsLackOf _ f = ⊥
