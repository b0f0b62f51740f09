-- Opacity: in every schedule what a run has read is one version, now and later, and the words show the history.
-- o are the opening values, `now` is reached from the opening by a schedule, and `later` from `now`.
use Rattle.std.specs.Prelude.{◌≡◌, ◌≢◌, ℕ, suc, ◌*◌, Some, List, slice_get, ◌⊎◌}
use Rattle.tlcore.specs.History.{Done, WordsEntry, Will, deed, version, value, IsVersionOf, One, Grows}
use Rattle.tlcore.specs.Seats.{Seat, reads_of, number_at}
use Rattle.tlcore.specs.Machine.{Cell, Action, World, next}
use Rattle.tlcore.specs.Schedules.{Event, run, start}

-- ---- over every schedule

-- P holds of each world of each schedule
abbrev pub Always : (List ℕ → World → Type 0) → Type 0
Always P = (values : List ℕ) (seats : ℕ) (front : List Event) (now : World) → run front (start values seats) ≡ Some now → P values now

-- P holds of each world of each schedule and each later world of that schedule
abbrev pub NowAndLater : (List ℕ → World → World → Type 0) → Type 0
NowAndLater P =
    (values : List ℕ) (seats : ℕ) (front rest : List Event) (now later : World)
    → run front (start values seats) ≡ Some now → run rest now ≡ Some later → P values now later

-- P holds of each event of each schedule: the world before it, its seat, the world after it, and each later world
abbrev pub AtEachEvent : (World → ℕ → World → World → Type 0) → Type 0
AtEachEvent P =
    (values : List ℕ) (seats : ℕ) (front rest : List Event) (seat : ℕ) (action : Action) (before after later : World)
    → run front (start values seats) ≡ Some before → next before seat action ≡ Some after → run rest after ≡ Some later
    → P before seat after later

-- ---- what holds

-- the history only grows
abbrev pub HistoryGrows : List ℕ → World → World → Type 0
HistoryGrows o now later = Grows now.history later.history

-- (a) what each seat has read is one version at its rv
abbrev pub ReadsAreOne : List ℕ → World → World → Type 0
ReadsAreOne o now later = (s : ℕ) (t : Seat) → slice_get now.seats s ≡ Some t → One o later.history t.rv (reads_of t.reads)

-- (b) the reads of each Done entry are one version just before the entry: after as many entries as its index i
abbrev pub DoneAreOne : List ℕ → World → World → Type 0
DoneAreOne o now later = (i : ℕ) (e : WordsEntry) → slice_get now.history i ≡ Some e → e.status ≡ Done → One o later.history i e.reads

-- (c) an even lock word is twice the number of the cell's last Done writer, or 0, and the value word is what that wrote, or
-- the opening value; and each cell that an Open entry will write is locked
pub record WordsShow (o : List ℕ) (w : World) : Type 0 where
  pub free : (c v : ℕ) (x : Cell) → slice_get w.cells c ≡ Some x → x.lock ≡ 2 * v
      → (v ≡ version w.history c) × (x.value ≡ value o w.history c)
  pub locked : (c i v : ℕ) (x : Cell) → slice_get w.cells c ≡ Some x → deed w.history c i ≡ Will v
      → (u : ℕ) × (x.lock ≡ suc (2 * u))

-- (d) a Void entry has changed no value word: an event that changes one is of a run whose entry is Done from then on
abbrev pub StoresAreDone : World → ℕ → World → World → Type 0
StoresAreDone before s after later =
    (c : ℕ) (x y : Cell) (t : Seat)
    → slice_get before.cells c ≡ Some x → slice_get after.cells c ≡ Some y → y.value ≢ x.value → slice_get before.seats s ≡ Some t
    → (i : ℕ) × (e : WordsEntry) × (number_at t.phase ≡ Some i) × (slice_get later.history i ≡ Some e) × (e.status ≡ Done)

-- the half of each lock word, free or locked, is 0 or the number of a Done entry that writes the cell
abbrev pub HalvesWereWritten : List ℕ → World → Type 0
HalvesWereWritten o w =
    (c v : ℕ) (x : Cell) → slice_get w.cells c ≡ Some x → (x.lock ≡ 2 * v) ⊎ (x.lock ≡ suc (2 * v)) → IsVersionOf w.history c v
