-- What a pass and a run keep, and what their calls tell.
use Rattle.std.specs.Prelude.{◌≡◌, ◌≢◌, ℕ, zero, suc, ◌-◌, ◌/◌, ◌%◌, ◌^◌, ◌<◌, ◌≤◌, Bool, true, is_some, if◌then◌else◌, Option}
use Rattle.std.specs.Prelude.{Some, None, List, [], ◌∷◌, ◌++◌, length, take, slice_get, ◌⊎◌, option_and_then}
use Rattle.std.specs.Option.{option_map}
use Rattle.tlcore.specs.Seats.{Seat, find_read, is_nil, is_resting, is_reading}
use Rattle.tlcore.specs.declared.seats.Read.{Read}
use Rattle.atomic_table.specs.Seated.{TableId}
use Rattle.atomic_table.specs.declared.shared.Seat.{Seat as TableSeat}
use Rattle.tlwords.specs.declared.log.Slot.{Slot}
use Rattle.tlwords.specs.declared.mode.Mode.{Mode}
use Rattle.tlwords.specs.declared.mode.Mode.TheVariants.{Reading, Writing}
use Rattle.tlwords.specs.declared.words.Words.{Words}
use Rattle.ranges.specs.declared.range.Range.{Range as Span}
use Rattle.ranges.specs.Ranges.{Range, Has, AreOfOneStore}
use Rattle.tlwords.specs.Terms.{Terms}
use Rattle.tlwords.specs.Views.{View, fresh}
use Rattle.tlwords.specs.Plays.{Mine, Sees}

-- ---- what is kept of the cells

abbrev pub word_seen : List Slot → ℕ → Option ℕ
word_seen slots c = option_and_then (λ s. s.word) (slice_get slots c)

abbrev pub value_kept : List Slot → ℕ → Option ℕ
value_kept slots c = option_and_then (λ s. s.kept) (slice_get slots c)

-- the cell was read in this run
abbrev pub was_read : List Slot → ℕ → Bool
was_read slots c = is_some (word_seen slots c)

-- nothing is kept
abbrev pub IsBlank : List Slot → Type 0
IsBlank slots = (c : ℕ) → (word_seen slots c ≡ None) × (value_kept slots c ≡ None)

-- what is kept is of the seat's reads, and a cell is written only after it was read
abbrev pub IsKeptOf : Seat → List Slot → Type 0
IsKeptOf t slots =
    ((c : ℕ) → word_seen slots c ≡ option_map (λ r. r.word) (find_read c t.reads))
    × ((c : ℕ) → is_some (value_kept slots c) ≡ true → was_read slots c ≡ true)
    × ((c w : ℕ) → word_seen slots c ≡ Some w → w % 2 ≡ 0)

-- the seat with the reads that a run in this mode keeps
abbrev pub noted : Mode → Seat → Seat
noted Reading t = record t { reads = [] }
noted Writing t = t

-- a read of the cell under this word was noted: the slots before and after
abbrev pub HasNoted : List Slot → List Slot → ℕ → ℕ → Type 0
HasNoted slots after cell word =
    ((t : Seat) (r : Read) → IsKeptOf t slots → r.cell ≡ cell → r.word ≡ word → IsKeptOf (record t { reads = r ∷ t.reads }) after)
    × ((c : ℕ) → value_kept after c ≡ value_kept slots c)
    × (was_read after cell ≡ true)
    × ((c : ℕ) → was_read slots c ≡ true → was_read after c ≡ true)
    × (length after ≡ length slots)

-- a value was kept aside for the cell
abbrev pub HasKept : List Slot → List Slot → ℕ → ℕ → Type 0
HasKept slots after cell value =
    ((t : Seat) → IsKeptOf t slots → IsKeptOf t after)
    × (value_kept after cell ≡ Some value)
    × ((c : ℕ) → c ≢ cell → value_kept after c ≡ value_kept slots c)
    × ((c : ℕ) → word_seen after c ≡ word_seen slots c)
    × (length after ≡ length slots)

module _ {S N : Type 0} where
  -- what a pass or a run knows of the store: whether a staging was refused. No range is being staged, and no pass was given up to it
  pub record KnowsStore (v : View S N) (refused : Bool) : Type 0 where
    pub at_rest : v.staging ≡ None
    pub alone : v.gone ≡ []
    pub full : is_some v.full ≡ refused
    pub ranges : AreOfOneStore v.room v.seen.ranges

  abbrev pub IsPassOf : Mine S N → ℕ → Type 0
  IsPassOf m count =
      (is_some m.0.setting ≡ true) × (is_resting m.0.seat.phase ≡ true) × (m.0.rights ≡ 1) × (length m.0.drawn ≡ count) × (count ≤ 2 ^ 40)

  -- o is true where the run met a conflict
  abbrev pub IsRunOf : Mine S N → ℕ → ℕ → Bool → Type 0
  IsRunOf m count place o =
      (is_some m.0.setting ≡ true) × ((if o then is_resting m.0.seat.phase else is_reading m.0.seat.phase) ≡ true) × (m.0.rights ≡ 1)
      × (length m.0.drawn ≡ count) × (count ≤ 2 ^ 40) × (m.0.seat.rv ≡ place) × (is_nil m.0.seat.held ≡ true)

  -- the opening's passes
  abbrev pub IsNew : S → List ℕ → ℕ → List Range → View S N → Type 0
  IsNew setting base room ranges v = v ≡ fresh (Some setting) base room ranges v.name 1

-- the seat is one of the words' table, of their opening
pub record IsSeated {L S N : Type 0} (words : Words L S N) (seat : TableSeat (Unit {0}) (View S N)) : Type 0 where
  pub table : seat.table_id ≡ words.table.shared.table_id
  pub setting : (x : S) × (seat.me.0.setting ≡ Some x)
  pub cells : words.cells ≡ length seat.me.0.base

-- what holds of a pass with this seat: what it keeps of the cells, how many numbers it drew, and whether a staging of it was refused
pub record Rests {S N : Type 0} (seat : TableSeat (Unit {0}) (View S N)) (slots : List Slot) (count : ℕ) (full : Bool) : Type 0 where
  pub fits : IsPassOf seat.me count
  pub knows : KnowsStore seat.me.0 full
  pub bare : seat.me.1 ≡ []
  pub blank : IsBlank slots
  pub room : length slots ≡ length seat.me.0.base

-- what holds of a run with this seat, over words at this table with so many cells and so much room
pub record Runs {S N : Type 0} (table : TableId) (cells words : ℕ) (seat : TableSeat (Unit {0}) (View S N)) (slots : List Slot)
    (mode : Mode)
    (count place : ℕ) (over full : Bool) : Type 0 where
  pub table_is : (seat.table_id ≡ table) × (cells ≡ length seat.me.0.base)
  pub room_is : words ≡ seat.me.0.room
  pub fits : IsRunOf seat.me count place over
  pub kept : IsKeptOf (noted mode seat.me.0.seat) slots
  pub room : length slots ≡ length seat.me.0.base
  pub knows : KnowsStore seat.me.0 full
  pub bare : seat.me.1 ≡ []

-- there are to be at most 2^32 - 1 cells, 1 to 64 sessions, and a room of at most 2^24 words
abbrev pub IsBadShape : ℕ → ℕ → ℕ → Type 0
IsBadShape cells sessions room = (2 ^ 32 ≤ cells) ⊎ (((sessions ≡ 0) ⊎ (64 < sessions)) ⊎ (2 ^ 24 < room))

-- the first seat, once it has made k passes for that many sessions
abbrev pub dealer : {S N : Type 0} → S → List ℕ → ℕ → List Range → ℕ → ℕ → View S N
dealer setting base room ranges sessions k = fresh (Some setting) base room ranges 0 (sessions - k)

-- k numbers, downwards from n
abbrev pub down : ℕ → ℕ → List ℕ
down n zero = []
down n (suc k) = n ∷ down (n - 1) k

-- ---- what calls tell

-- the word shows the lock held, or a version above the place
abbrev pub HasCause : ℕ → ℕ → Type 0
HasCause place word = (word % 2 ≡ 1) ⊎ (place < word / 2)

module _ {S N : Type 0} (terms : Terms S N) where
  -- the seat's range of these words was finished
  pub record Finishes (words : List ℕ) (start : ℕ) (m r : Mine S N) : Type 0 where
    pub sees : Sees terms m.0 r.0
    pub finished : Has (record { start = start; words = words }) r.0.seen.ranges
    pub is : r.0 ≡ record m.0 { seen = r.0.seen; staging = None }

  -- the first so many words of a range were fetched, one after another, and stand behind others
  pub record Fetched (range : Span) (count : ℕ) (m r : Mine S N) (before after : List ℕ) : Type 0 where
    pub moves : (r ≡ m) ⊎ Sees terms m.0 r.0
    pub is : r.0 ≡ record m.0 { seen = r.0.seen }
    pub words : (words : List ℕ) → Has (record { start = range.start; words = words }) m.0.seen.ranges → length words ≡ range.len
        → after ≡ before ++ take count words
