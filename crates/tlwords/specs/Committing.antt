-- Of the code's inside, apart from the rules: what the steps inside a commit tell, and the cells that it holds on the way.
use Rattle.std.specs.Prelude.{◌≡◌, ◌≢◌, ℕ, zero, suc, ◌*◌, ◌/◌, ◌<◌, Bool, nat_lt, nat_le, ◌||◌, true, is_some, if◌then◌else◌, Option, Some}
use Rattle.std.specs.Prelude.{None, List, []}
use Rattle.std.specs.Prelude.{◌∷◌, ◌++◌, length, ◌⊎◌}
use Rattle.atomic_table.specs.declared.shared.Seat.{Seat as TableSeat}
use Rattle.tlcore.specs.History.{IsVersionOf, wv}
use Rattle.tlcore.specs.Seats.{Seat, is_nil, writes_of, is_next, all_settled}
use Rattle.tlcore.specs.Machine.{in_phase, conflict}
use Rattle.tlcore.specs.declared.seats.Held.{Held}
use Rattle.tlcore.specs.declared.seats.Phase.{Phase}
use Rattle.tlcore.specs.declared.seats.Phase.TheVariants.{Idle, Checking, Storing, Failing, Voiding}
use Rattle.tlwords.specs.declared.log.Log.{Log}
use Rattle.tlwords.specs.declared.log.Slot.{Slot}
use Rattle.tlwords.specs.declared.mode.Mode.{Mode}
use Rattle.tlwords.specs.declared.outcome.Conflict.{Conflict as ConflictValue}
use Rattle.tlwords.specs.declared.outcome.Outcome.{Outcome}
use Rattle.tlwords.specs.declared.words.Words.{Words}
use Rattle.tlwords.specs.Terms.{Terms}
use Rattle.tlwords.specs.Seen.{Work, Committed, IsDone}
use Rattle.tlwords.specs.Views.{View}
use Rattle.tlwords.specs.Known.{known_of, going_of}
use Rattle.tlwords.specs.Plays.{Mine, Sees, IsSameSeat}
use Rattle.tlwords.specs.Runs.{word_seen, value_kept, HasCause, IsPassOf, IsKeptOf, IsSeated, KnowsStore}
use Rattle.tlwords.specs.Commits.{cells_of, IsVoid}
use Rattle.tlwords.specs.Calls.{Ends}
use Rattle.tlwords.specs.Walks.{IsPlan}

-- the log is that of a run at this seat over these words, and has the plan of what the run writes
pub record IsPlanned {L S N : Type 0} (words : Words L S N) (seat : TableSeat (Unit {0}) (View S N)) (log : Log) : Type 0 where
  pub seated : IsSeated words seat
  pub cells : length log.slots ≡ words.cells
  pub kept : IsKeptOf seat.me.0.seat log.slots
  pub plan : IsPlan log.slots true log.writes.items

abbrev pub word_or_zero : Option ℕ → ℕ
word_or_zero None = 0
word_or_zero (Some w) = w

-- the cell c is held beside the others where a value is kept for it and it stands from `low` on; the value of one below `done` is stored
abbrev pub with_held : List Slot → ℕ → ℕ → ℕ → Option ℕ → List Held → List Held
with_held slots done low c None ks = ks
with_held slots done low c (Some v) ks =
    if nat_le low c then record { cell = c; word = word_or_zero (word_seen slots c); value = v; stored = nat_lt c done } ∷ ks else ks

-- the cells from `low` to before n for which a value is kept, the largest first
abbrev pub held_in : List Slot → ℕ → ℕ → ℕ → List Held
held_in slots done low zero = []
held_in slots done low (suc n) = with_held slots done low n (value_kept slots n) (held_in slots done low n)

-- a run at the place p that holds these cells, or is idle where it holds none
abbrev pub holding : Seat → Phase → Phase → List Held → Seat
holding t p none ks = record t { phase = (if is_nil ks then none else p); held = ks }

-- such a run, which has locked all these cells since it was at t
abbrev pub locking : Seat → Phase → Phase → List Held → Seat
locking t p none ks = record (holding t p none ks) { locked = cells_of (writes_of ks) ++ t.locked }

module _ {S N : Type 0} (terms : Terms S N) where
  -- the run has gone on to the seat t but for the last look, and nothing else has changed but what was seen
  pub record Goes (m : Mine S N) (t : Seat) (r : Mine S N) : Type 0 where
    pub moves : (r ≡ m) ⊎ Sees terms m.0 r.0
    pub is : r.0 ≡ record m.0 { seen = r.0.seen; seat = record t { looked = r.0.seat.looked } }

  -- a look or a take of the conflict's cell found its word, and the run's newest read of it the one before
  pub record Meets (slots : List Slot) (k : ConflictValue) (r : Mine S N) : Type 0 where
    pub looked : r.0.seat.looked ≡ Some (k.cell, k.word)
    pub written : IsVersionOf r.0.seen.history k.cell (k.word / 2)
    pub before : word_seen slots k.cell ≡ k.before

  -- the take of the conflict's cell failed, and the smaller cells are held
  pub record FailsToTake (slots : List Slot) (k : ConflictValue) (m r : Mine S N) : Type 0 where
    pub goes : Goes m (locking (conflict m.0.seat Idle) Failing Idle (held_in slots 0 0 k.cell)) r
    pub sees : Sees terms m.0 r.0
    pub meets : Meets slots k r
    pub differs : (w : ℕ) × (k.before ≡ Some w) × (w ≢ k.word)
    pub within : k.cell < length slots

  -- a check of the conflict's cell failed
  pub record FailsTheCheck (slots : List Slot) (i : ℕ) (k : ConflictValue) (m r : Mine S N) : Type 0 where
    pub goes : Goes m (conflict m.0.seat (Voiding i)) r
    pub meets : Meets slots k r
    pub read : is_some k.before ≡ true
    pub cause : HasCause m.0.seat.rv k.word

  -- the check passed, or wasn't needed
  pub record Passes (i : ℕ) (m r : Mine S N) : Type 0 where
    pub upto : ℕ
    pub goes : Goes m (in_phase m.0.seat (Checking i upto)) r
    pub may : (is_next m.0.seat i || all_settled m.0.seat.held upto m.0.seat.reads) ≡ true

  -- the values of the cells below `low` are stored, at least one
  pub record StoresTo (slots : List Slot) (i : ℕ) (w : Work N) (low : ℕ) (m r : Mine S N) : Type 0 where
    pub sees : Sees terms m.0 r.0
    pub done : IsDone r.0.seen i w
    pub is : r.0 ≡ record m.0 {
      seen = r.0.seen;
      seat = record m.0.seat { phase = Storing i; held = held_in slots low 0 (length slots); looked = r.0.seat.looked };
      mine = m.0.mine ++ Committed (wv i) w ∷ [];
    }

  -- the cells below `low` are released. Each gets its former word back, or the new one once all values are stored
  pub record Releasing (slots : List Slot) (high : ℕ) (new : Option ℕ) (low : ℕ) (m r : Mine S N) : Type 0 where
    pub phase : Phase
    pub done : ℕ
    pub gives :
        ((new ≡ None) × ((phase ≡ Failing) ⊎ ((i : ℕ) × (phase ≡ Voiding i))))
        ⊎ ((done ≡ high) × ((i : ℕ) × (phase ≡ Storing i) × (new ≡ Some (2 * wv i))))
    pub start : m.0.seat ≡ holding m.0.seat phase Idle (held_in slots done 0 high)
    pub goes : Goes m (holding m.0.seat phase Idle (held_in slots done low high)) r
    pub looked : r.0.seat.looked ≡ m.0.seat.looked
    pub void : (i : ℕ) → phase ≡ Voiding i → (r ≡ m) ⊎ IsVoid r.0.seen i

  -- nothing is held any more
  pub record ReleasesAll (m r : Mine S N) : Type 0 where
    pub goes : Goes m (record m.0.seat { phase = Idle; held = [] }) r
    pub looked : r.0.seat.looked ≡ m.0.seat.looked
    pub void : (i : ℕ) → m.0.seat.phase ≡ Voiding i → IsVoid r.0.seen i

  -- a commit with this note has ended so, of a run in this mode at this place that kept this; its pass has drawn so many numbers
  pub record Concludes (n : N) (mode : Mode) (place : ℕ) (slots : List Slot) (count : ℕ) (p q : TableSeat (Unit {0}) (View S N))
      (o : Outcome) :
      Type 0 where
    pub seat : IsSameSeat p q
    pub pass : IsPassOf q.me count
    pub store : (full : Bool) → KnowsStore p.me.0 full → KnowsStore q.me.0 full
    pub ends : Ends terms n (going_of p.table_id p.me.0 place mode None slots) (known_of q.table_id q.me.0) o
