-- Of the code's inside, apart from the rules: what one run of a session does to its pass, and the record that is left of it.
use Rattle.std.specs.Prelude.{◌≡◌, ◌≤◌, ◌+◌, ℕ, Option, Some, None, List, [], ◌∷◌, ◌++◌}
use Rattle.std.specs.FinMap.{empty}
use Rattle.std.specs.declared.snapshot.Snapshot.{Snapshot}
use Rattle.library.specs.declared.command.Command.{Command}
use Rattle.library.specs.declared.command.Reply.{Reply}
use Rattle.library.specs.declared.reason.Refused.{Refused as Refusal}
use Rattle.library.specs.Library.{Listed}
use Rattle.cells.specs.Sight.{WasAsked, WasWritten}
use Rattle.commands.specs.Takes.{most_words_of}
use Rattle.tlwords.specs.Seen.{SeenGrows}
use Rattle.tlwords.specs.Known.{Knows}
use Rattle.tlwords.specs.Commits.{writes_kept}
use Rattle.lawful.specs.declared.notes.Note.TheVariants.{Done, Refused, Looked}
use Rattle.lawful.specs.declared.notes.Given.{Given}
use Rattle.lawful.specs.Lawful.{setting_given, ForEachUnder, library_terms}
use Rattle.lawful.specs.History.{history_of}
use Rattle.lending.specs.Lent.{Pass, Carried, Lending, lent_sight, FullStays, ExceedsRoom}
use Rattle.lending.specs.Ends.{IsLawfulWith}
use Rattle.transaction.specs.declared.outcome.Record.{Record}
use Rattle.transaction.specs.declared.outcome.Outcome.{Outcome}
use Rattle.transaction.specs.declared.outcome.Outcome.TheVariants as outcome
use Rattle.transaction.specs.Members.{IsRecordIn}
use Rattle.transaction.specs.Footprints.{MayRead, MayWrite, StaysWithin}
use Rattle.transaction.specs.Locks.{LocksWithin, LocksOnlyToCommit}
use Rattle.transaction.specs.Attempts.{Gains, IsOneRun, LeavesStaged, TellsRoom}

-- the pass later: of the same words, with the same name, having seen more
pub record IsLaterPass (old new : Pass) : Type 0 where
  pub home : new.home ≡ old.home
  pub name : new.name ≡ old.name
  pub grows : SeenGrows old.seen new.seen
  pub full : FullStays old new
  pub exceeds : ExceedsRoom old → ExceedsRoom new
  pub knows : Knows library_terms new

-- the number that was drawn, if one was, has this record
abbrev pub IsRecorded : Pass → Pass → Option Record → Type 0
IsRecorded old new None = new.drawn ≡ old.drawn
IsRecorded old new (Some r) = (new.drawn ≡ old.drawn ++ r.number ∷ []) × IsRecordIn (history_of new.seen) r

-- what one run does
pub record Tries (cs : List Command) (old new : Pass) (o : Outcome) (r : Option Record) : Type 0 where
  pub later : IsLaterPass old new
  pub gains : Gains cs old new o
  pub run : IsOneRun old new o
  pub unrefused : o ≡ outcome.NoMemory → new.full ≡ old.full
  pub unlocked : LocksOnlyToCommit old new o
  pub recorded : IsRecorded old new r

-- what a run would give back, were it ended now
abbrev pub carried_by : Lending → Carried
carried_by l = record { pass = l.going.known; staged = l.staged; lacked_room = l.full }

-- nothing is taken of the store, and what was staged stays
abbrev pub StoresNothing : Carried → Carried → Type 0
StoresNothing old new = (new.pass.taken ≡ old.pass.taken) × (new.staged ≡ old.staged)

-- so where a run ends, but that a Committed forgets what was staged; and a run that is given up tells whether it lacked room
abbrev pub EndsStored : Carried → Carried → Outcome → Type 0
EndsStored old new (outcome.Committed number replies) = (new.pass.taken ≡ old.pass.taken) × (new.staged ≡ empty)
EndsStored old new outcome.StoreFull = StoresNothing old new × TellsRoom new.lacked_room outcome.StoreFull
EndsStored old new outcome.NoMemory = StoresNothing old new × TellsRoom new.lacked_room outcome.NoMemory
EndsStored old new _ = StoresNothing old new

-- what one run takes of the store and leaves staged, and that it tells whether it lacked room
abbrev pub Stores : List Command → Carried → Carried → Outcome → Type 0
Stores cs old new o =
    LeavesStaged old.staged new.staged o × (new.pass.taken ≤ old.pass.taken + most_words_of cs) × TellsRoom new.lacked_room o

-- the run is lawful with a note that the commands are done
abbrev pub MayBeDone : Lending → List Command → List Reply → Type 0
MayBeDone l cs replies =
    (c : Snapshot (List Command)) (r : Snapshot (List Reply)) → c.value ≡ cs → r.value ≡ replies
    → IsLawfulWith l (writes_kept l.going.slots) (Done c r)

-- that they are refused, where nothing is kept aside any more
abbrev pub MayBeRefused : Lending → List Command → Refusal → Type 0
MayBeRefused l cs refused =
    (c : Snapshot (List Command)) (r : Snapshot Refusal) → c.value ≡ cs → r.value ≡ refused → IsLawfulWith l [] (Refused c r)

-- or that the library was this
abbrev pub MayBeLooked : Lending → Listed → Type 0
MayBeLooked l library = (s : Snapshot Listed) → s.value ≡ library → IsLawfulWith l [] (Looked s)

-- ---- which cells it asks for

-- each cell that the run has asked for is one that the transaction may read, in each state that may be under it and shows a library
abbrev pub AsksWithin : Lending → List Command → Type 0
AsksWithin l cs =
    (cell : ℕ) → WasAsked (lent_sight l) cell → ForEachUnder (lent_sight l) (λ st lib. MayRead (setting_given l.given) st lib cs cell)

-- each for which it keeps a value aside is one that the transaction may write
abbrev pub KeepsWithin : Lending → List Command → Type 0
KeepsWithin l cs =
    (cell : ℕ) → WasWritten (lent_sight l) cell → ForEachUnder (lent_sight l) (λ st lib. MayWrite (setting_given l.given) st lib cs cell)

-- so what is told of cells at the end is of these, and what was locked, by what the words were opened with
abbrev pub EndsWithin : Pass → List Command → Pass → Outcome → Type 0
EndsWithin old cs new o =
    (g : Given) → old.home.setting ≡ Some g → StaysWithin g new.home.base new.seen cs o × LocksWithin g cs old new
