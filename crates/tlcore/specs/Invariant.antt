-- The invariant: what holds in the opening world and is kept by each lawful event. docs/OPACITY.md gives the reason for each clause.
-- o are the opening values, xs the cells, h the history, c a cell, t a seat.
use Rattle.std.specs.Prelude.{◌≡◌, ◌≢◌, ℕ, suc, ◌*◌, ◌≤◌, true, false, Option, Some, None, List, [], ◌∷◌, length, slice_get}
use Rattle.tlcore.specs.History.{Open, Done, WordsEntry, wv, Will, deed, version, value, IsVersionOf, IsOne, One}
use Rattle.tlcore.specs.Seats.{Read, Held, Phase, Idle, Reading, Looked, Loaded, Taking, Checking, Storing, Failing, Voiding, Seat}
use Rattle.tlcore.specs.Seats.{number_at, reads_of, find_held, writes_of, is_settled}
use Rattle.tlcore.specs.Machine.{Cell, World}

-- ---- cells and history

-- a free cell shows its last Done writer, and no Open entry writes it
abbrev pub CellsOk : List ℕ → List Cell → List WordsEntry → Type 0
CellsOk o xs h =
    (c v : ℕ) (x : Cell) → slice_get xs c ≡ Some x → x.lock ≡ 2 * v
    → (v ≡ version h c) × (x.value ≡ value o h c) × ((i u : ℕ) → deed h c i ≡ Will u → ⊥)

-- what the run of a Done entry read is one version, just before the entry
abbrev pub HistoryOk : List ℕ → List WordsEntry → Type 0
HistoryOk o h = (i : ℕ) (e : WordsEntry) → slice_get h i ≡ Some e → e.status ≡ Done → One o h i e.reads

-- ---- the reads of a seat

-- the lock word is free, and of version at most rv
abbrev pub IsOld : ℕ → ℕ → Type 0
IsOld word rv = (v : ℕ) × (word ≡ 2 * v) × (v ≤ rv)

-- each read was made under such a word, and is of the version at rv
abbrev pub ReadsOk : List ℕ → List WordsEntry → ℕ → List Read → Type 0
ReadsOk o h rv [] = Unit {0}
ReadsOk o h rv (r ∷ rs) = (IsOld r.word rv × IsOne o h rv r.cell r.value) × ReadsOk o h rv rs

-- ---- the cells that a seat holds

-- the index of the run's entry where that entry is Done
abbrev pub done_at : Phase → Option ℕ
done_at (Storing i) = Some i
done_at Idle = None
done_at Reading = None
done_at (Looked c x) = None
done_at (Loaded c x v) = None
done_at Taking = None
done_at (Checking i u) = None
done_at Failing = None
done_at (Voiding i) = None

-- what a held cell shows: the state before the run's entry, or, where that is Done, the entry's write
abbrev pub HeldShows : List ℕ → List WordsEntry → Option ℕ → ℕ → Held → Cell → Type 0
HeldShows o h None c k x = (k.word ≡ 2 * version h c) × (x.value ≡ value o h c) × (k.stored ≡ false)
HeldShows o h (Some i) c k x = (version h c ≡ wv i) × (value o h c ≡ k.value) × (k.stored ≡ true → x.value ≡ k.value)

-- p is the phase of the seat that holds the cell c as k says, and x the cell's words
pub record HeldOk (o : List ℕ) (h : List WordsEntry) (rv : ℕ) (p : Phase) (c : ℕ) (k : Held) (x : Cell) : Type 0 where
  -- the lock word is the one seen at the read, and locked
  pub locked : x.lock ≡ suc k.word
  pub old : IsOld k.word rv
  pub shows : HeldShows o h (done_at p) c k x
  -- the half of the word seen is 0 or the number of a Done entry that writes the cell
  pub was : (v : ℕ) → k.word ≡ 2 * v → IsVersionOf h c v
  -- no Open entry but the run's own writes the cell
  pub mine : (i v : ℕ) → deed h c i ≡ Will v → number_at p ≡ Some i

-- ---- the phase of a seat

-- the reads that need no check any more are of the version just before the entry at i
abbrev pub SettledOk : List ℕ → List WordsEntry → ℕ → List Held → ℕ → List Read → Type 0
SettledOk o h i held upto [] = Unit {0}
SettledOk o h i held upto (r ∷ rs) = (is_settled held upto r.cell ≡ true → IsOne o h i r.cell r.value) × SettledOk o h i held upto rs

-- the run has drawn the entry at i, which is Open and has its reads and its writes
pub record CheckingOk (o : List ℕ) (h : List WordsEntry) (t : Seat) (i upto : ℕ) : Type 0 where
  pub entry : WordsEntry
  pub here : slice_get h i ≡ Some entry
  pub status : entry.status ≡ Open
  pub reads : entry.reads ≡ reads_of t.reads
  pub writes : entry.writes ≡ writes_of t.held
  pub after : t.rv ≤ i
  pub settled : SettledOk o h i t.held upto t.reads

-- what the phase of the seat tells. The word that a look has found stays at most twice the version, and where it is twice the
-- version still, the value word shows the value (Looked), or what was loaded is the value (Loaded)
abbrev pub PhaseOk : List ℕ → List Cell → List WordsEntry → Seat → Phase → Type 0
PhaseOk o xs h t Idle = t.held ≡ []
PhaseOk o xs h t Reading = t.held ≡ []
PhaseOk o xs h t (Looked c word) =
    (t.held ≡ []) × IsOld word t.rv × (word ≤ 2 * version h c)
    × (word ≡ 2 * version h c → (x : Cell) → slice_get xs c ≡ Some x → x.value ≡ value o h c)
PhaseOk o xs h t (Loaded c word v) =
    (t.held ≡ []) × IsOld word t.rv × (word ≤ 2 * version h c) × (word ≡ 2 * version h c → v ≡ value o h c)
PhaseOk o xs h t Taking = Unit {0}
PhaseOk o xs h t (Checking i upto) = CheckingOk o h t i upto
PhaseOk o xs h t (Storing i) = (e : WordsEntry) × (slice_get h i ≡ Some e) × (e.status ≡ Done)
PhaseOk o xs h t Failing = Unit {0}
PhaseOk o xs h t (Voiding i) = (e : WordsEntry) × (slice_get h i ≡ Some e) × (e.status ≢ Done)

-- what holds of each seat
pub record SeatOk (o : List ℕ) (xs : List Cell) (h : List WordsEntry) (t : Seat) : Type 0 where
  pub phase : PhaseOk o xs h t t.phase
  pub rv : t.rv ≤ length h
  pub reads : ReadsOk o h t.rv t.reads
  pub held : (c : ℕ) (k : Held) → find_held c t.held ≡ Some k
      → (x : Cell) × (slice_get xs c ≡ Some x) × HeldOk o h t.rv t.phase c k x

-- ---- all seats

-- no cell is held by two seats
abbrev pub HeldApart : List Seat → Type 0
HeldApart ts =
    (s z : ℕ) (t u : Seat) (c : ℕ) (k l : Held) → slice_get ts s ≡ Some t → slice_get ts z ≡ Some u
    → find_held c t.held ≡ Some k → find_held c u.held ≡ Some l → s ≡ z

-- no number is drawn by two runs
abbrev pub NumbersApart : List Seat → Type 0
NumbersApart ts =
    (s z : ℕ) (t u : Seat) (i : ℕ) → slice_get ts s ≡ Some t → slice_get ts z ≡ Some u
    → number_at t.phase ≡ Some i → number_at u.phase ≡ Some i → s ≡ z

-- the seat holds the cell
abbrev pub Holds : Seat → ℕ → Type 0
Holds t c = (k : Held) × (find_held c t.held ≡ Some k)

-- each locked cell is held by a seat
abbrev pub LockedAreHeld : List Cell → List Seat → Type 0
LockedAreHeld xs ts =
    (c v : ℕ) (x : Cell) → slice_get xs c ≡ Some x → x.lock ≡ suc (2 * v)
    → (s : ℕ) × (t : Seat) × (slice_get ts s ≡ Some t) × Holds t c

-- ---- the world

-- the clock, the words, the seats and the history say the same
pub record Consistent (o : List ℕ) (w : World) : Type 0 where
  pub clock : w.clock ≡ length w.history
  pub cells : CellsOk o w.cells w.history
  pub history : HistoryOk o w.history
  pub seats : (s : ℕ) (t : Seat) → slice_get w.seats s ≡ Some t → SeatOk o w.cells w.history t
  pub held_apart : HeldApart w.seats
  pub numbers_apart : NumbersApart w.seats

-- what each lawful event keeps
pub record Invariant (o : List ℕ) (w : World) : Type 0 where
  pub consistent : Consistent o w
  pub locked_are_held : LockedAreHeld w.cells w.seats
