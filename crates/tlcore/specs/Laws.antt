-- Laws of single events, for whoever runs the machine's events on words of its own: one for each kind of event, with the world
-- that follows. o are the opening values; t is the seat s of w, x the cell c.
use Rattle.std.specs.Prelude.{◌≡◌, ℕ, ◌*◌, ◌||◌, true, false, Some, List, [], ◌∷◌, ◌++◌, length, ◌≤◌, slice_get, ◌⊎◌}
use Rattle.tlcore.specs.History.{Void, WordsEntry, wv, settle, One, Grows}
use Rattle.tlcore.specs.Seats.{Read, Held, Idle, Reading, Looked, Loaded, Taking, Checking, Storing, Failing, Voiding, Seat, idle}
use Rattle.tlcore.specs.Seats.{find_read, find_held, all_below, all_settled, is_due, is_next}
use Rattle.tlcore.specs.Machine.{Cell, World, Action, Begin, Look, Load, Relook, Take, Draw, Check, Store, Release, with_seat, begun, look}
use Rattle.tlcore.specs.Machine.{load, relook, take_cell, drawn, check, store, release, next}
use Rattle.tlcore.specs.Opacity.{HalvesWereWritten}
use Rattle.tlcore.specs.Invariant.{Invariant}

-- v keeps the invariant, and the history of w grows into that of v
pub record Keeps (o : List ℕ) (w v : World) : Type 0 where
  pub invariant : Invariant o v
  pub grows : Grows w.history v.history

-- each lawful event, whatever its kind
abbrev pub EachEventKeeps : Type 0
EachEventKeeps = (o : List ℕ) (w v : World) (s : ℕ) (a : Action) → Invariant o w → next w s a ≡ Some v → Keeps o w v

-- the event is lawful in w and leads to v, which keeps the invariant
pub record Leads (o : List ℕ) (w : World) (s : ℕ) (a : Action) (v : World) : Type 0 where
  pub lawful : next w s a ≡ Some v
  pub keeps : Keeps o w v

-- Begin: the seat is idle, or its run holds no cell and is outside a read
abbrev pub BeginLeads : Type 0
BeginLeads =
    (o : List ℕ) (w : World) (s : ℕ) (t : Seat) → Invariant o w → slice_get w.seats s ≡ Some t
    → (t.phase ≡ Idle) ⊎ (t.phase ≡ Reading)
    → Leads o w s Begin (with_seat w s (begun w t))

-- Look: the run is reading
abbrev pub LookLeads : Type 0
LookLeads =
    (o : List ℕ) (w : World) (s : ℕ) (t : Seat) (c : ℕ) (x : Cell) → Invariant o w → slice_get w.seats s ≡ Some t
    → t.phase ≡ Reading → slice_get w.cells c ≡ Some x
    → Leads o w s (Look c) (look w s t c x)

-- Load: after a look at this cell that passed
abbrev pub LoadLeads : Type 0
LoadLeads =
    (o : List ℕ) (w : World) (s : ℕ) (t : Seat) (c word : ℕ) (x : Cell) → Invariant o w → slice_get w.seats s ≡ Some t
    → t.phase ≡ Looked c word → slice_get w.cells c ≡ Some x
    → Leads o w s (Load c) (load w s t c word x)

-- Relook: after the load of this cell
abbrev pub RelookLeads : Type 0
RelookLeads =
    (o : List ℕ) (w : World) (s : ℕ) (t : Seat) (c word value : ℕ) (x : Cell) → Invariant o w → slice_get w.seats s ≡ Some t
    → t.phase ≡ Loaded c word value → slice_get w.cells c ≡ Some x
    → Leads o w s (Relook c) (relook w s t c word value x)

-- Take: of a cell that was read, above each cell that is held
abbrev pub TakeLeads : Type 0
TakeLeads =
    (o : List ℕ) (w : World) (s : ℕ) (t : Seat) (c value : ℕ) (r : Read) (x : Cell) → Invariant o w → slice_get w.seats s ≡ Some t
    → (t.phase ≡ Reading) ⊎ ((t.phase ≡ Taking) × (all_below c t.held ≡ true))
    → find_read c t.reads ≡ Some r → slice_get w.cells c ≡ Some x
    → Leads o w s (Take c value) (take_cell w s t c value r.word x)

-- Draw: all cells to be written are held, at least one
abbrev pub DrawLeads : Type 0
DrawLeads =
    (o : List ℕ) (w : World) (s : ℕ) (t : Seat) → Invariant o w → slice_get w.seats s ≡ Some t
    → t.phase ≡ Taking
    → Leads o w s Draw (drawn w s t)

-- Check: of the least cell that was read and is neither held nor checked, and not where rv + 1 = wv
abbrev pub CheckLeads : Type 0
CheckLeads =
    (o : List ℕ) (w : World) (s : ℕ) (t : Seat) (i upto c : ℕ) (r : Read) (x : Cell) → Invariant o w → slice_get w.seats s ≡ Some t
    → t.phase ≡ Checking i upto → is_next t i ≡ false → is_due t upto c ≡ true
    → find_read c t.reads ≡ Some r → slice_get w.cells c ≡ Some x
    → Leads o w s (Check c) (check w s t i c x)

-- Store: of a cell that is held, once the check has passed or where rv + 1 = wv
abbrev pub StoreLeads : Type 0
StoreLeads =
    (o : List ℕ) (w : World) (s : ℕ) (t : Seat) (i c : ℕ) (k : Held) (x : Cell) → Invariant o w → slice_get w.seats s ≡ Some t
    → ((upto : ℕ) × (t.phase ≡ Checking i upto) × ((is_next t i || all_settled t.held upto t.reads) ≡ true)) ⊎ (t.phase ≡ Storing i)
    → find_held c t.held ≡ Some k → slice_get w.cells c ≡ Some x
    → Leads o w s (Store c) (store w s t i c k x)

-- Release of a cell that is held: after its store, by a run whose entry is Done
abbrev pub ReleaseLeads : Type 0
ReleaseLeads =
    (o : List ℕ) (w : World) (s : ℕ) (t : Seat) (i c : ℕ) (k : Held) (x : Cell) → Invariant o w → slice_get w.seats s ≡ Some t
    → t.phase ≡ Storing i → find_held c t.held ≡ Some k → k.stored ≡ true → slice_get w.cells c ≡ Some x
    → Leads o w s (Release c) (release w s t c (2 * wv i) x w.history)

-- after a conflict before the draw
abbrev pub ReleaseFailedLeads : Type 0
ReleaseFailedLeads =
    (o : List ℕ) (w : World) (s : ℕ) (t : Seat) (c : ℕ) (k : Held) (x : Cell) → Invariant o w → slice_get w.seats s ≡ Some t
    → t.phase ≡ Failing → find_held c t.held ≡ Some k → slice_get w.cells c ≡ Some x
    → Leads o w s (Release c) (release w s t c k.word x w.history)

-- after a check that met a conflict
abbrev pub ReleaseVoidLeads : Type 0
ReleaseVoidLeads =
    (o : List ℕ) (w : World) (s : ℕ) (t : Seat) (i c : ℕ) (k : Held) (x : Cell) → Invariant o w → slice_get w.seats s ≡ Some t
    → t.phase ≡ Voiding i → find_held c t.held ≡ Some k → slice_get w.cells c ≡ Some x
    → Leads o w s (Release c) (release w s t c k.word x (settle w.history i Void))

-- ---- beside the events

-- a world may gain an idle seat
abbrev pub IdleSeatKeeps : Type 0
IdleSeatKeeps = (o : List ℕ) (w : World) → Invariant o w → Invariant o (record w { seats = w.seats ++ idle ∷ [] })

-- the half of each lock word is 0 or the number of a Done entry that writes the cell
abbrev pub HalvesAreWritten : Type 0
HalvesAreWritten = (o : List ℕ) (w : World) → Invariant o w → HalvesWereWritten o w

-- what is one version stays so in every later history
abbrev pub OneStays : Type 0
OneStays =
    (o : List ℕ) (g h : List WordsEntry) (k : ℕ) (reads : List (ℕ × ℕ))
    → Grows g h → k ≤ length g → One o g k reads → One o h k reads
