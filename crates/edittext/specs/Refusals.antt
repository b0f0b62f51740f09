-- Why a source isn't edited, and the line that says so. The reasons stand in the order of the steps: a line tells the first that is so, and
-- says with it that each step before was taken: reading the source, beginning the scripts, their run, giving back its edits, verifying.
use Rattle.std.specs.Prelude.{◌≡◌, ◌≢◌, ◌⊎◌, ℕ, Bool, List}
use Rattle.source.specs.Scopes.{Scope}
use Rattle.source.specs.Sources.{DeclaresText}
use Rattle.checking.specs.declared.fault.Fault.{Fault}
use Rattle.checking.specs.declared.fault.Fault.TheVariants as fault
use Rattle.checking.specs.Checks.{Bytes}
use Rattle.checking.specs.FaultLines.{line_of}
use Rattle.mmsyntax.specs.Tables.{Contents}
use Rattle.transaction.specs.declared.outcome.Outcome.{Outcome}
use Rattle.jobs.specs.Jobs.{Room, room_of}
use Rattle.jobs.specs.Parts.{IsWorkFault}
use Rattle.expanding.specs.Descriptions.{Description}
use Rattle.editscripts.specs.Encouraged.{AreAllowed}
use Rattle.editscripts.specs.Described.{AreDescriptive, done_descriptions}
use Rattle.pasting.specs.Quotes.{Quote}
use Rattle.editscripts.specs.Quoted.{AreQuotesOf, done_quotations}
use Rattle.dressing.specs.Dressed.{IsDressed}
use Rattle.editopening.specs.Opening.{Begun, choice_of, opened_of, scripts_of}
use Rattle.editopening.specs.Refusals.{IsFaultyLine, IsUnbegunLine}
use Rattle.edittext.specs.Edited.{Run, Closed, IsSourceThen}
use Rattle.editedsource.specs.Refusals.{IsStoppedLine, IsFaultyThenLine}

-- ---- the run, and what becomes of the source

-- scripts aren't run over the library of a database, in a store of this room
pub record IsWorkLine (paths : List Bytes) (contents : Contents) (workers words : ℕ) (line : Bytes) : Type 0 where
  pub found : Fault
  pub faulty : IsWorkFault contents workers words found
  pub told : found ≢ fault.NoMemory
  pub says : line ≡ line_of paths found

-- nor are those that were read
pub record IsUnworkedLine (paths : List Bytes) (source : Bytes) (texts : List Bytes) (workers : ℕ) (room : Room) (force : Bool)
    (line : Bytes) : Type 0 where
  pub begun : Begun source texts
  pub allowed : AreAllowed source begun.old force begun.with_ranks.over.spread
  pub cause : IsWorkLine paths (opened_of begun) workers (room_of room (opened_of begun) (scripts_of begun)) line

-- ---- behind a run

-- its edits can't be given back into the source
pub record IsUngivenLine {source : Bytes} {texts : List Bytes} {workers : ℕ} {room : Room} {rows : List (List Outcome)} (path : Bytes)
    (run : Run source texts workers room rows) (line : Bytes) : Type 0 where
  pub closed : Closed run
  pub cause : IsStoppedLine path source run.begun.old (choice_of run.begun) closed.taken run.entries closed.library line

-- the source with them doesn't verify
pub record IsUnverifiedLine {source : Bytes} {texts : List Bytes} {workers : ℕ} {room : Room} {rows : List (List Outcome)} (path : Bytes)
    (run : Run source texts workers room rows) (line : Bytes) : Type 0 where
  pub closed : Closed run
  pub edits : Bytes
  pub source_then : IsSourceThen closed edits
  pub quotes : List (List Quote)
  pub are_quotes : AreQuotesOf run.begun.with_ranks.over.spread quotes
  pub descriptions : List (List Description)
  pub are_descriptive : AreDescriptive texts run.begun.with_ranks.over.spread descriptions
  pub out : Bytes
  pub dressed : IsDressed (done_quotations rows quotes) (done_descriptions rows descriptions) source_then.followed edits out
  pub cause : IsFaultyThenLine path out line

-- the first of these is told
abbrev pub IsUnfinishedLine : {source : Bytes} {texts : List Bytes} {workers : ℕ} {room : Room} {rows : List (List Outcome)}
    → Bytes → Run source texts workers room rows → Bytes → Type 0
IsUnfinishedLine path run line = IsUngivenLine path run line ⊎ IsUnverifiedLine path run line

-- ---- before it

-- why nothing is run: the source has no fault; the scripts are begun; they are run. The first of these that isn't so is told. The path of
-- the source is the first of all
abbrev pub IsUneditedLine : Bytes → List Bytes → Bytes → List Bytes → ℕ → Room → Bool → Bytes → Type 0
IsUneditedLine path paths source texts workers room force line =
    IsFaultyLine path source line
    ⊎ (((s : Scope) × DeclaresText source s × IsUnbegunLine path paths source s texts force line)
    ⊎ IsUnworkedLine paths source texts workers room force line)
