-- What a look at the whole library gives, and what a session learns of another one.
use Rattle.std.specs.Prelude.{◌≡◌, ◌≢◌, ℕ, None, false}
use Rattle.library.specs.Library.{Listed}
use Rattle.ranges.specs.Ranges.{Has}
use Rattle.tlwords.specs.Seen.{SeenGrows, Answered}
use Rattle.lawful.specs.declared.notes.Note.{Note}
use Rattle.lawful.specs.declared.notes.Note.TheVariants as note
use Rattle.lawful.specs.History.{history_of, AllAgree}
use Rattle.lending.specs.Lent.{Pass}
use Rattle.transaction.specs.declared.outcome.Look.{Look}
use Rattle.transaction.specs.declared.outcome.Look.TheVariants as look
use Rattle.transaction.specs.Members.{Member, IsLater}
use Rattle.transaction.specs.Attempts.{GainsCall, IsNotBefore, DrawsNone, AddsNothing, Meets, LoadsOnce, MetNone}

-- the note says that the library was this
abbrev pub SaysLooked : Listed → Note → Type 0
SaysLooked library (note.Looked l) = l.value ≡ library
SaysLooked library _ = ⊥

-- what the pass has then, after one run: want of memory is told only where it met no conflict
abbrev pub Sees : Pass → Pass → Look → Type 0
Sees old new (look.Read place library) =
    IsNotBefore old place × DrawsNone old new × GainsCall old new (Answered place) (SaysLooked library) × LoadsOnce old new place
Sees old new (look.Conflict place cell word before) =
    AddsNothing old new × Meets false old new (record { place = place; cell = cell; word = word; before = before }) × (before ≡ None)
Sees old new look.NoMemory = AddsNothing old new × MetNone old new

-- what a look does
pub record TakesLook (old new : Member) (l : Look) : Type 0 where
  pub later : IsLater old new
  pub sees : Sees old.known new.known l
  pub staged : new.staged ≡ old.staged
  pub taken : new.known.taken ≡ old.known.taken

-- one session has learnt of another
pub record SessionsLearn (old other new other_new : Member) : Type 0 where
  pub own : IsLater old new
  pub other_own : IsLater other other_new
  -- what both had seen grows into what the first has seen now
  pub told : SeenGrows other.known.seen new.known.seen
  pub kept : AddsNothing old.known new.known
  pub other_kept : AddsNothing other.known other_new.known
  -- the calls of both agree with it
  pub agree : AllAgree new.given (history_of new.known.seen) other.known.mine
  -- and the numbers of two sessions are different
  pub apart : old.known.name ≢ other.known.name → (number : ℕ) → Has number old.known.drawn → Has number other.known.drawn → ⊥
  -- what each has staged stays, and so does what is told of the store: neither took words of it, nor found it full
  pub staged : (new.staged ≡ old.staged) × (other_new.staged ≡ other.staged)
  pub taken : (new.known.taken ≡ old.known.taken) × (other_new.known.taken ≡ other.known.taken)
  pub full : (new.known.full ≡ old.known.full) × (other_new.known.full ≡ other.known.full)
