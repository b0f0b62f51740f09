-- Of the code's inside, apart from the rules: cells on plain vectors: what they hold at all times, and what their run has seen.
use Rattle.std.specs.Prelude.{◌≡◌, ◌≢◌, ◌<◌, ◌≤◌, ℕ, suc, ◌+◌, ◌/◌, ◌%◌, ◌^◌, ◌||◌, ◌==◌, Bool, true, if◌then◌else◌, List, [], ◌∷◌, ◌++◌, length, map, take, drop, slice_get, slice_set, slice_index, Some, None}
use Rattle.std.specs.List.{list_any}
use Rattle.std.specs.FinMap.{empty}
use Rattle.library.specs.declared.library.Ranked.{Ranked}
use Rattle.library.specs.Library.{Setting, Verifies}
use Rattle.ranges.specs.Pairs.{Pairs}
use Rattle.ranges.specs.Ranges.{Range, Has, word_of}
use Rattle.ranges.specs.declared.range.Range.{Range as Span}
use Rattle.cells.specs.State.{State}
use Rattle.cells.specs.Slots.{is_ranged}
use Rattle.cells.specs.Sight.{Sight, Suits}
use Rattle.cells.specs.Shows.{Shows}

-- each value with its cell, from the cell c on
abbrev pub numbered_from : ℕ → List ℕ → Pairs
numbered_from c [] = []
numbered_from c (v ∷ vs) = (c, v) ∷ numbered_from (suc c) vs

-- the values as they were before the cells of a log had others: the last entry of the log is undone first
abbrev pub undone : List ℕ → Pairs → List ℕ
undone values [] = values
undone values (p ∷ log) = slice_set (undone values log) p.0 p.1

-- the cells of a log, each with the value that it had when the run began
abbrev pub read_at_first : List ℕ → Pairs → Pairs
read_at_first base [] = []
read_at_first base (p ∷ log) = (p.0, slice_index base p.0) ∷ read_at_first base log

-- the range of the store at a place
abbrev pub range_in : List ℕ → Span → Range
range_in store r = record { start = r.start; words = take r.len (drop r.start store) }

abbrev pub ranges_in : List ℕ → List Span → List Range
ranges_in store places = map (range_in store) places

-- the place behind the words of a store, for so many words more
abbrev pub behind : List ℕ → List ℕ → Span
behind store words = record { start = length store; len = length words }

-- a place behind others, where it was put there
abbrev pub with_place : Bool → List Span → Span → List Span
with_place put places place = if put then places ++ place ∷ [] else places

-- what the run has seen: it may do all; it knows all ranges; it has read the cells of its log; it keeps aside all values as they are now;
-- and the words that were taken are those of the store, which may have had no room for others. It notes nothing of what is staged, and no
-- read stops it but for want of memory, which it doesn't note
abbrev pub plain_sight : Setting → ℕ → List ℕ → Pairs → List ℕ → List Span → Bool → Sight (Unit {0})
plain_sight setting room values log store places full =
    record {
      origin = tt;
      setting = setting;
      may_write = true;
      may_stage = true;
      ranges = ranges_in store places;
      reads = read_at_first (undone values log) log;
      writes = numbered_from 0 values;
      taken = length store;
      room = room;
      staged = empty;
      halted = None;
      full = full;
    }

-- the state of these values and ranges
abbrev pub plain_state : List ℕ → List ℕ → List Span → State
plain_state values store places = record { value = slice_index values; ranges = ranges_in store places }

-- the values show a library that verifies
abbrev pub ShowsSome : Setting → List ℕ → List ℕ → List Span → Type 0
ShowsSome setting values store places =
    (lib : List Ranked) × Shows setting.slots (plain_state values store places) lib × Verifies setting lib

-- the state with which the run began may be the one under the run, and shows a library that verifies
abbrev pub BeganWithSome : Setting → ℕ → List ℕ → Pairs → List ℕ → List Span → Type 0
BeganWithSome setting room values log store places =
    (lib : List Ranked)
    × ((full : Bool) → Suits (plain_sight setting room values log store places full) (plain_state (undone values log) store places) lib)

-- the word is 0 or names one of the ranges
abbrev pub names : List Range → ℕ → Bool
names ranges word = word == 0 || list_any (λ r. word_of r == word) ranges

-- name, statement and proof cells hold 0 or words that name ranges
abbrev pub HoldNames : ℕ → List ℕ → List Range → Type 0
HoldNames slots values ranges = (c v : ℕ) → slice_get values c ≡ Some v → is_ranged slots c ≡ true → names ranges v ≡ true

-- each range has words, all of them in the store
abbrev pub LieInStore : List ℕ → List Span → Type 0
LieInStore store places = (i : ℕ) (r : Span) → slice_get places i ≡ Some r → (0 < r.len) × (r.start + r.len ≤ length store)

-- the log is of cells
abbrev pub IsLogOf : ℕ → Pairs → Type 0
IsLogOf count log = (i : ℕ) (p : ℕ × ℕ) → slice_get log i ≡ Some p → p.0 < count

-- the place that a word names
abbrev pub IsPlaceOf : ℕ → Span → Type 0
IsPlaceOf word r = (r.start ≡ word / 2 ^ 25) × (r.len ≡ word % 2 ^ 25)

-- each of the places is named by a range cell with one of these values, and those that the first so many range cells name are among them
pub record AreNamedBy (slots : ℕ) (values : List ℕ) (count : ℕ) (places : List Span) : Type 0 where
  pub named : (r : Span) → Has r places
      → (c : ℕ) × (v : ℕ) × (slice_get values c ≡ Some v) × (is_ranged slots c ≡ true) × (v ≢ 0) × IsPlaceOf v r
  pub all : (c v : ℕ) → c < count → slice_get values c ≡ Some v → is_ranged slots c ≡ true → v ≢ 0
      → (r : Span) × Has r places × IsPlaceOf v r
