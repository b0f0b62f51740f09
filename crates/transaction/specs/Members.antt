-- What contracts see of a library in running words and of its sessions, and what is so of a session at all times.
use Rattle.std.specs.Prelude.{◌≡◌, ℕ, suc, Option, Some, None, List, [], All, Bool, map, slice_get}
use Rattle.bodystore.specs.Stages.{Staged}
use Rattle.library.specs.declared.command.Command.{Command}
use Rattle.library.specs.declared.command.Reply.{Reply}
use Rattle.library.specs.Histories.{Entry, void_entry, done_entry}
use Rattle.ranges.specs.Ranges.{AreOfOneStore}
use Rattle.cells.specs.State.{most_words}
use Rattle.tlwords.specs.Seen.{SeenGrows}
use Rattle.tlwords.specs.Known.{WordsHome, Known, Knows}
use Rattle.tlwords.specs.Calls.{new_pass}
use Rattle.lawful.specs.declared.notes.Given.{Given}
use Rattle.lawful.specs.declared.notes.Note.{Note}
use Rattle.lawful.specs.Lawful.{library_terms}
use Rattle.lawful.specs.History.{history_of, IsHistoryOf, AllAgree}
use Rattle.lawful.specs.Laws.{IsPassOn}
use Rattle.lending.specs.Lent.{FullStays, ExceedsRoom}
use Rattle.transaction.specs.declared.outcome.Record.{Record}

-- a library in running words: the opening database and the slots, the opening of its words, the words that its store began with, and how
-- many sessions were dealt
pub record Home : Type 0 where
  pub given : Given
  pub words : WordsHome Given
  pub store : List ℕ
  pub sessions : ℕ

-- a session: the opening database and the slots, what its pass knows, the records of the numbers that it drew, what it has staged since its
-- last Committed, and whether the store had no room for words that its last run was to stage
pub record Member : Type 0 where
  pub given : Given
  pub known : Known Given Note
  pub records : List Record
  pub staged : Staged
  pub lacked_room : Bool

-- the session is one of the library
abbrev pub IsSessionOf : Home → Member → Type 0
IsSessionOf home m = m.known.home ≡ home.words

-- ---- records

-- what a record says that the entry of its number is
abbrev pub entry_recorded : Option (List Command × List Reply) → Entry
entry_recorded None = void_entry
entry_recorded (Some done) = done_entry done.0 done.1

-- so it is in the history
abbrev pub IsRecordIn : List Entry → Record → Type 0
IsRecordIn h r = (i : ℕ) × (r.number ≡ suc i) × (slice_get h i ≡ Some (entry_recorded r.done))

-- each number that was drawn has its record, in order
pub record AreRecorded (m : Member) : Type 0 where
  pub numbers : map (λ r. r.number) m.records ≡ m.known.drawn
  pub entries : All (IsRecordIn (history_of m.known.seen)) m.records

-- ---- what is promised of a session

-- its words were opened with what it was given; the history that it has seen is one of the library, with which its calls agree: each
-- transaction's replies are the definition's, from the library at the opening, the library after each front verifies, and the cells show it
-- there; the ranges that it has seen are of one store; each number that it drew has its record; and where a staging of it was refused, the
-- tail that the first of these found and the number of its words exceed the room
pub record IsSoundMember (m : Member) : Type 0 where
  pub setting : m.known.home.setting ≡ Some m.given
  pub history : IsHistoryOf m.given m.known.home.base m.known.seen
  pub store : AreOfOneStore most_words m.known.seen.ranges
  pub agree : AllAgree m.given (history_of m.known.seen) m.known.mine
  pub recorded : AreRecorded m
  pub exceeds : ExceedsRoom m.known

-- the session later: of the same library, with the same name, having seen more. Where a staging of it found the store full, that is told
-- from then on
pub record IsLater (old new : Member) : Type 0 where
  pub given : new.given ≡ old.given
  pub home : new.known.home ≡ old.known.home
  pub name : new.known.name ≡ old.known.name
  pub grows : SeenGrows old.known.seen new.known.seen
  pub full : FullStays old.known new.known
  pub stands : IsSoundMember new

-- ---- what is so at all times

-- what a session keeps, from which the promises follow
pub record IsMember (m : Member) : Type 0 where
  pub on : IsPassOn m.given m.known
  pub knows : Knows library_terms m.known
  pub recorded : AreRecorded m
  pub exceeds : ExceedsRoom m.known

-- a pass of no words, for the time in which a run has the session's own
abbrev pub no_pass : Known Given Note
no_pass =
    new_pass (record {
      table = record { words = 0; slots = 0; views_name = 0; atom = 0; block = 0; offset = 0; slot_names = [] };
      setting = None;
      base = [];
      room = 0;
    }) [] 0
