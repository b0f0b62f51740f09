-- How a run commits: what it writes.
use Rattle.std.specs.Prelude.{◌≡◌, ℕ, zero, suc, Option, Some, None, List, [], ◌∷◌, length, map, slice_get}
use Rattle.tlcore.specs.History.{WordsEntry}
use Rattle.tlcore.specs.Seats.{Seat, reads_of}
use Rattle.tlcore.specs.declared.entries.Status.TheVariants.{Void}
use Rattle.tlwords.specs.declared.log.Slot.{Slot}
use Rattle.tlwords.specs.declared.outcome.Conflict.{Conflict as ConflictValue}
use Rattle.ranges.specs.Pairs.{Pairs}
use Rattle.tlwords.specs.Seen.{Work, Seen}
use Rattle.tlwords.specs.Runs.{word_seen, value_kept, IsKeptOf}

-- ---- what is written

-- the cell c is written where a value is kept for it, after these other writes
abbrev pub with_write : ℕ → Option ℕ → Pairs → Pairs
with_write c None ps = ps
with_write c (Some v) ps = (c, v) ∷ ps

-- the values kept for the cells below n, the largest cell first
abbrev pub writes_below : List Slot → ℕ → Pairs
writes_below slots zero = []
writes_below slots (suc n) = with_write n (value_kept slots n) (writes_below slots n)

-- what the run is to write
abbrev pub writes_kept : List Slot → Pairs
writes_kept slots = writes_below slots (length slots)

-- the cells of these pairs
abbrev pub cells_of : Pairs → List ℕ
cells_of ps = map (λ p. p.0) ps

-- the cells that a run has locked where its commit met this conflict: all that it was to write where it drew a number, else those of them
-- that are below the conflict's cell, which it didn't get
abbrev pub cells_locked : List Slot → ConflictValue → Option ℕ → List ℕ
cells_locked slots k None = cells_of (writes_below slots k.cell)
cells_locked slots k (Some number) = cells_of (writes_kept slots)

-- the work of the run
abbrev pub work_kept : {N : Type 0} → Seat → List Slot → N → Work N
work_kept t slots n = record { reads = reads_of t.reads; writes = writes_kept slots; note = n }

-- ---- what was kept is thrown away

-- no value is kept any more: the slots before and after
abbrev pub HasForgotten : List Slot → List Slot → Type 0
HasForgotten slots after =
    ((t : Seat) → IsKeptOf t slots → IsKeptOf t after)
    × ((c : ℕ) → value_kept after c ≡ None)
    × ((c : ℕ) → word_seen after c ≡ word_seen slots c)
    × (writes_kept after ≡ []) × (length after ≡ length slots)

-- the entry at the index i is Void
abbrev pub IsVoid : {N : Type 0} → Seen N → ℕ → Type 0
IsVoid g i = (e : WordsEntry) × (slice_get g.history i ≡ Some e) × (e.status ≡ Void)
