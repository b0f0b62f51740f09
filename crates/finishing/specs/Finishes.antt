-- What finishing a library in running words gives, and when it is refused.
use Rattle.std.specs.Prelude.{◌≡◌, ◌<◌, ◌≤◌, ℕ, suc, ◌%◌, Some, List, length, map, slice_get, All, Result, Ok, Err}
use Rattle.library.specs.Library.{Listed}
use Rattle.library.specs.Histories.{Grows, EntriesFit, after_all, seen_entry, IsAfterHistory}
use Rattle.library.specs.declared.history.Entry.{Entry as CodeEntry}
use Rattle.ranges.specs.Ranges.{Has}
use Rattle.tlwords.specs.declared.closing.ClosedCell.{ClosedCell}
use Rattle.tlwords.specs.declared.closing.ClosedWords.{ClosedWords}
use Rattle.tlwords.specs.Closing.{ClosesAll, IsHeldIn}
use Rattle.cells.specs.Shows.{Shows}
use Rattle.lawful.specs.Lawful.{setting_given, first_library, state_of, library_terms}
use Rattle.lawful.specs.History.{history_of, AllAgree}
use Rattle.transaction.specs.Members.{Home, Member, entry_recorded}
use Rattle.transaction.specs.Closings.{passes_of}
use Rattle.transaction.specs.declared.outcome.Record.{Record}
use Rattle.finishing.specs.declared.error.FinishError.{FinishError}
use Rattle.finishing.specs.declared.error.FinishError.TheVariants.{Missing, Held, NoMemory}

-- the words are those of the library at its end: into the one history that they show grows what each of these sessions had seen; a lock
-- that is held is that of a seat in the middle of a run, of which there are no more than sessions that aren't handed in; and where all are
-- handed in, no lock is held, and the clock is how many numbers they drew
abbrev pub AreItsWords : Home → List Member → ClosedWords → Type 0
AreItsWords home members words =
    ClosesAll library_terms home.given home.words.base home.store home.sessions (passes_of members) words

-- some session drew the number
abbrev pub IsDrawn : List Member → ℕ → Type 0
IsDrawn members n = (m : Member) × Has m members × Has n m.known.drawn

-- a number up to the clock that no session drew
pub record IsMissing (members : List Member) (words : ClosedWords) (n : ℕ) : Type 0 where
  pub some : 1 ≤ n
  pub within : n ≤ words.clock
  pub undrawn : IsDrawn members n → ⊥

-- the lock of the cell is held
abbrev pub IsHeld : ClosedWords → ℕ → Type 0
IsHeld words c = (x : ClosedCell) × (slice_get words.cells.items c ≡ Some x) × (x.lock % 2 ≡ 1)

-- a seat of the library holds the cell, in the middle of a run. It is that of a session that isn't among these, each of which is at rest
-- and holds nothing: so not all sessions are here
abbrev pub IsHeldByAnother : (home : Home) (members : List Member) (words : ClosedWords) → AreItsWords home members words → ℕ → Type 0
IsHeldByAnother home members words its c = IsHeldIn its.closes.world c × (length members < home.sessions)

-- each entry is the record of a number that one of the sessions drew
abbrev pub AreRecordedBy : List Member → List CodeEntry → Type 0
AreRecordedBy members history =
    (i : ℕ) (e : CodeEntry) → slice_get history i ≡ Some e
    → (m : Member) × (r : Record) × Has m members × Has r m.records × (r.number ≡ suc i) × (entry_recorded r.done ≡ seen_entry e)

-- the history has one entry for each number up to the clock, and is the one that the words show; what each session had seen grows into it,
-- and its calls agree with it; each entry is the record of a session; it is legal from the library at the opening, with commands within the
-- limits; and the library is the one after all of it, and the one that the closed words show
pub record IsFinished (home : Home) (members : List Member) (history : List CodeEntry) (library : Listed) : Type 0 where
  pub words : ClosedWords
  pub its : AreItsWords home members words
  pub room : words.room ≡ home.words.room
  pub long : length history ≡ words.clock
  pub is : history_of its.closes.seen ≡ map seen_entry history
  pub grow : All (λ m. Grows (history_of m.known.seen) (map seen_entry history)) members
  pub agree : All (λ m. AllAgree home.given (map seen_entry history) m.known.mine) members
  pub recorded : AreRecordedBy members history
  pub fit : EntriesFit (setting_given home.given).prelude (map seen_entry history)
  pub after : IsAfterHistory (setting_given home.given) (first_library home.given) (map seen_entry history) library
  pub shows : Shows home.given.slots (state_of (map (λ x. x.value) words.cells.items) its.closes.seen.ranges)
      (after_all (setting_given home.given) (first_library home.given) (map seen_entry history))

-- the least number that is missing; then the least cell whose lock is held, by a session that isn't handed in
abbrev pub Finishes : Home → List Member → Result (List CodeEntry × Listed) FinishError → Type 0
Finishes home members (Ok made) = IsFinished home members made.0 made.1
Finishes home members (Err (Missing n)) =
    (words : ClosedWords) × AreItsWords home members words × IsMissing members words n
    × ((m : ℕ) → m < n → IsMissing members words m → ⊥)
Finishes home members (Err (Held c)) =
    (words : ClosedWords) × (its : AreItsWords home members words) × ((n : ℕ) → IsMissing members words n → ⊥) × IsHeld words c
    × ((d : ℕ) → d < c → IsHeld words d → ⊥) × IsHeldByAnother home members words its c
Finishes home members (Err NoMemory) = Unit {0}
