-- What becomes of a transaction that a session runs, and what the session's pass knows then.
use Rattle.std.specs.Prelude.{◌≡◌, ◌≢◌, ◌<◌, ◌≤◌, ℕ, suc, ◌+◌, ◌*◌, ◌/◌, ◌^◌, ◌⊎◌, Bool, true, false, is_some, if◌then◌else◌, Some, None}
use Rattle.std.specs.Prelude.{List, [], ◌∷◌, ◌++◌, length, map, slice_get, All}
use Rattle.std.specs.FinMap.{empty}
use Rattle.bodystore.specs.Stages.{Staged}
use Rattle.library.specs.declared.command.Command.{Command}
use Rattle.library.specs.declared.command.Reply.{Reply}
use Rattle.library.specs.declared.reason.Refused.{Refused as Refusal}
use Rattle.library.specs.Histories.{void_entry}
use Rattle.library.specs.Transactions.{has_edit, has_too_many}
use Rattle.cells.specs.Answers.{has_staging}
use Rattle.cells.specs.Sight.{StaysStaged}
use Rattle.commands.specs.Takes.{most_words_of}
use Rattle.ranges.specs.Pairs.{written}
use Rattle.tlcore.specs.History.{IsVersionOf}
use Rattle.tlwords.specs.Seen.{Work, Call, Committed as CommittedCall, Answered}
use Rattle.tlwords.specs.Runs.{HasCause}
use Rattle.lawful.specs.declared.notes.Note.{Note}
use Rattle.lawful.specs.declared.notes.Note.TheVariants as note
use Rattle.lawful.specs.History.{history_of}
use Rattle.lending.specs.Lent.{Pass, FindsNone}
use Rattle.transaction.specs.declared.outcome.Outcome.{Outcome}
use Rattle.transaction.specs.declared.outcome.Outcome.TheVariants as outcome
use Rattle.transaction.specs.Meeting.{Met, conflict_of}
use Rattle.transaction.specs.Members.{Member, IsLater}
use Rattle.transaction.specs.Footprints.{StaysWithin}
use Rattle.transaction.specs.Locks.{LocksWithin, LocksOnlyToCommit}

-- ---- the notes of calls

-- the note says that the commands are done, with these replies
abbrev pub SaysDone : List Command → List Reply → Note → Type 0
SaysDone cs replies (note.Done c r) = (c.value ≡ cs) × (r.value ≡ replies)
SaysDone cs replies _ = ⊥

-- the note says that they are refused
abbrev pub SaysRefused : List Command → Refusal → Note → Type 0
SaysRefused cs refused (note.Refused c r) = (c.value ≡ cs) × (r.value ≡ refused)
SaysRefused cs refused _ = ⊥

-- there is one call more, with a note of which this is so
abbrev pub GainsCall : Pass → Pass → (Work Note → Call Note) → (Note → Type 0) → Type 0
GainsCall old new call Says = (work : Work Note) × Says work.note × (new.mine ≡ old.mine ++ call work ∷ [])

-- ---- what a call adds

-- the place is behind all that was seen before
abbrev pub IsNotBefore : Pass → ℕ → Type 0
IsNotBefore old place = length old.seen.history ≤ place

-- no number was drawn
abbrev pub DrawsNone : Pass → Pass → Type 0
DrawsNone old new = new.drawn ≡ old.drawn

-- the entry with the number is void
abbrev pub IsVoidNumber : Pass → ℕ → Type 0
IsVoidNumber new number = (i : ℕ) × (number ≡ suc i) × (slice_get (history_of new.seen) i ≡ Some void_entry)

-- no number was drawn, or one, whose entry is void
abbrev pub DrawsVoid : Pass → Pass → Type 0
DrawsVoid old new = DrawsNone old new ⊎ ((number : ℕ) × (new.drawn ≡ old.drawn ++ number ∷ []) × IsVoidNumber new number)

-- there is no call more, and no number was drawn: the attempt stands nowhere in the history
pub record AddsNothing (old new : Pass) : Type 0 where
  pub mine : new.mine ≡ old.mine
  pub drawn : DrawsNone old new

-- what was found of the conflict's cell: the one load of the clock of this call found the place, and the last look of its run the word,
-- which shows the lock held, a version above the place, or another word than the read before. The half of the word is 0 or the number of a
-- Done entry that writes this very cell. Where the run keeps its reads, the word before is the one that its newest read of the cell found,
-- and there is none exactly where no read of the cell had ended; where it keeps none, none is told
pub record Meets (keeps : Bool) (old new : Pass) (met : Met) : Type 0 where
  pub placed : IsNotBefore old met.place
  pub run : new.clocks ≡ met.place ∷ old.clocks
  pub looked : new.looked ≡ Some (met.cell, met.word)
  pub before : met.before ≡ (if keeps then written met.cell new.found else None)
  pub cause : HasCause met.place met.word ⊎ ((w : ℕ) × (met.before ≡ Some w) × (w ≢ met.word))
  pub written : IsVersionOf new.seen.history met.cell (met.word / 2)

-- the try kept no read set: nothing of what it had read before is told, and it drew no number
abbrev pub KeptNoReads : Pass → Pass → Met → Type 0
KeptNoReads old new met = (met.before ≡ None) × DrawsNone old new

-- ---- a transaction

-- what the pass has then, by the outcome
abbrev pub Gains : List Command → Pass → Pass → Outcome → Type 0
Gains cs old new (outcome.Committed number replies) =
    (has_edit cs ≡ true) × (length old.seen.history < number) × (new.drawn ≡ old.drawn ++ number ∷ [])
    × GainsCall old new (CommittedCall number) (SaysDone cs replies)
Gains cs old new (outcome.Read place replies) =
    (has_edit cs ≡ false) × IsNotBefore old place × DrawsNone old new × GainsCall old new (Answered place) (SaysDone cs replies)
Gains cs old new (outcome.Refused place index reason) =
    IsNotBefore old place × DrawsNone old new
    × GainsCall old new (Answered place) (SaysRefused cs (record { index = index; reason = reason }))
Gains cs old new (outcome.Conflict place cell word before) =
    let met : Met = record { place = place; cell = cell; word = word; before = before } in
    (new.mine ≡ old.mine) × DrawsVoid old new × Meets (has_edit cs) old new met × (has_edit cs ≡ false → KeptNoReads old new met)
Gains cs old new outcome.StoreFull = AddsNothing old new × (is_some new.full ≡ true) × (has_staging cs ≡ true)
Gains cs old new outcome.NumbersUsed = AddsNothing old new × (length old.drawn ≡ 2 ^ 40)
Gains cs old new outcome.TooManyCommands = (new ≡ old) × (has_too_many cs ≡ true)
Gains cs old new outcome.NoMemory = AddsNothing old new

-- ---- how it ran

-- the call loaded the clock once, and that found this place
abbrev pub LoadsOnce : Pass → Pass → ℕ → Type 0
LoadsOnce old new place = new.clocks ≡ place ∷ old.clocks

-- the last look of the run, if it made one, met no conflict: the word that it found shows the lock free, and a version up to the run's
-- place, and is the one under which the run's newest read of the cell ended
pub record MetNone (old new : Pass) : Type 0 where
  pub place : ℕ
  pub placed : IsNotBefore old place
  pub run : LoadsOnce old new place
  pub found : FindsNone place new.looked new.found

-- the call was one run, at the place that is told, but where it had too many commands; and a full store or want of memory is told only
-- where that run met no conflict
abbrev pub IsOneRun : Pass → Pass → Outcome → Type 0
IsOneRun old new (outcome.Read place replies) = LoadsOnce old new place
IsOneRun old new (outcome.Refused place index reason) = LoadsOnce old new place
IsOneRun old new (outcome.Conflict place cell word before) = LoadsOnce old new place
IsOneRun old new outcome.StoreFull = MetNone old new
IsOneRun old new outcome.NoMemory = MetNone old new
IsOneRun old new outcome.TooManyCommands = Unit {0}
IsOneRun old new _ = (place : ℕ) × LoadsOnce old new place

-- what is staged then: nothing after a Committed; else what was staged, and maybe more
abbrev pub LeavesStaged : Staged → Staged → Outcome → Type 0
LeavesStaged old new (outcome.Committed number replies) = new ≡ empty
LeavesStaged old new _ = StaysStaged old new

-- a full store is told only where the store had no room for words that the try was to stage, want of memory only where it didn't lack room
abbrev pub TellsRoom : (lacked : Bool) → Outcome → Type 0
TellsRoom lacked outcome.StoreFull = lacked ≡ true
TellsRoom lacked outcome.NoMemory = lacked ≡ false
TellsRoom lacked _ = Unit {0}

-- what one try does. It takes at most the words of the bodies of its commands, each once
pub record Attempts (cs : List Command) (old new : Member) (o : Outcome) : Type 0 where
  pub later : IsLater old new
  pub gains : Gains cs old.known new.known o
  pub run : IsOneRun old.known new.known o
  -- where memory ran out, no staging of it was refused
  pub unrefused : o ≡ outcome.NoMemory → new.known.full ≡ old.known.full
  pub room : TellsRoom new.lacked_room o
  -- the cell of a conflict is one that it may read, at the conflict's place; and a Committed wrote only what it may write, over the
  -- library before it
  pub footprint : StaysWithin new.given new.known.home.base new.known.seen cs o
  -- it locked no cells but those that it may write, over the library at its place, and none but where it committed or met a conflict
  pub locks : LocksWithin new.given cs old.known new.known
  pub unlocked : LocksOnlyToCommit old.known new.known o
  pub counted : has_too_many cs ≡ true → o ≡ outcome.TooManyCommands
  pub staged : LeavesStaged old.staged new.staged o
  pub taken : new.known.taken ≤ old.known.taken + most_words_of cs
  pub untouched : has_too_many cs ≡ true → new.staged ≡ old.staged

-- tries, one after another, each of which met one of these conflicts, the newest first
abbrev pub MeetsAll : List Command → Member → Member → List Met → Type 0
MeetsAll cs old new [] = new ≡ old
MeetsAll cs old new (met ∷ mets) = (mid : Member) × MeetsAll cs old mid mets × Attempts cs mid new (conflict_of met)

-- what the pass knew, with further numbers, and after further runs, at these places, the newest first
abbrev pub tried : Pass → List ℕ → List ℕ → Pass
tried k numbers runs = record k { drawn = k.drawn ++ numbers; clocks = runs ++ k.clocks }

-- a conflict that a session met on the way to what it is now: it has its cause; the half of its word is 0 or the number of a Done entry
-- that writes its cell; and the cell is one that the transaction may read, over the library at the conflict's place
pub record WasMet (cs : List Command) (now : Member) (met : Met) : Type 0 where
  pub cause : HasCause met.place met.word ⊎ ((w : ℕ) × (met.before ≡ Some w) × (w ≢ met.word))
  pub written : IsVersionOf now.known.seen.history met.cell (met.word / 2)
  pub footprint : StaysWithin now.given now.known.home.base now.known.seen cs (conflict_of met)

-- what tries until there is no conflict do: tries that each met one, and a last one that met none, of which all is so that is so of a try.
-- So of all of them together: those before the last drew further numbers, which are void, and took words of the store
pub record Submits (cs : List Command) (old new : Member) (o : Outcome) : Type 0 where
  -- the session as the last try found it
  pub last : Member
  pub ends : Attempts cs last new o
  pub later : IsLater old new
  pub numbers : List ℕ
  pub void : All (IsVoidNumber new.known) numbers
  pub runs : List ℕ
  -- the conflicts, the newest first, each at the place of its run
  pub met : List Met
  pub places : map (λ m. m.place) met ≡ runs
  -- which the tries before the last one met
  pub before : MeetsAll cs old last met
  pub conflicts : All (WasMet cs new) met
  pub gains : Gains cs (tried old.known numbers runs) new.known o
  pub run : IsOneRun (tried old.known numbers runs) new.known o
  -- all its tries locked no cells but those that it may write, over the library at the place of one of them
  pub locks : LocksWithin new.given cs old.known new.known
  pub settled : (met : Met) → o ≢ conflict_of met
  pub staged : LeavesStaged old.staged new.staged o
  pub taken : new.known.taken ≤ old.known.taken + (length runs * most_words_of cs + most_words_of cs)
  pub untouched : has_too_many cs ≡ true → new.staged ≡ old.staged
