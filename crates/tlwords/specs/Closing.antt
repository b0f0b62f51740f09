-- What the words show at the end.
use Rattle.std.specs.Prelude.{◌%◌, ◌≡◌, ℕ, ◌+◌, ◌*◌, ◌/◌, ◌≤◌, Some, List, eqb, length, map, slice_get, min, true, false}
use Rattle.std.specs.Prelude.{if◌then◌else◌}
use Rattle.std.specs.List.{IsDistinct}
use mathlib.Core.Option.{some}
use lib.ListN.{get_elem?}
use Rattle.tlcore.specs.History.{WordsEntry, IsVersionOf, Will, version, value, deed}
use Rattle.tlwords.specs.declared.closing.ClosedCell.{ClosedCell}
use Rattle.tlwords.specs.declared.closing.ClosedWords.{ClosedWords}
use Rattle.ranges.specs.Ranges.{Range, Has, Names, IsStored, AreOfOneStore}
use Rattle.tlwords.specs.Terms.{Terms, Opened}
use Rattle.tlwords.specs.Seen.{Seen, SeenGrows, Legal, Agree}
use Rattle.tlwords.specs.Known.{Known}
use Rattle.tlwords.specs.Layout.{clock_at, lock_at, value_at, tail_at, store_at}
use Rattle.tlwords.specs.Rule.{total_of, Reached}
use Rattle.tlcore.specs.Machine.{World}
use Rattle.tlcore.specs.Seats.{Seat, is_nil, is_resting}
use Rattle.tlcore.specs.Invariant.{Invariant, Holds}

-- the cells have these words
abbrev pub AreCellsOf : List ℕ → List ClosedCell → Type 0
AreCellsOf words cells =
    (c : ℕ) (x : ClosedCell) → slice_get cells c ≡ Some x
    → (get_elem? words (lock_at c) ≡ some x.lock) × (get_elem? words (value_at c) ≡ some x.value)

-- the store behind so many cells has these words
abbrev pub IsStoreOf : List ℕ → ℕ → List ℕ → Type 0
IsStoreOf words cells store = (o w : ℕ) → slice_get store o ≡ Some w → get_elem? words (store_at cells o) ≡ some w

-- these are the words of a closed table with so many cells and such a room: of its store a front, in which is each word that is taken
pub record AreGathered (words : List ℕ) (cells room : ℕ) (closed : ClosedWords) : Type 0 where
  pub clock_is : get_elem? words clock_at ≡ some closed.clock
  pub tail_is : get_elem? words (tail_at cells) ≡ some closed.tail
  pub cells_are : AreCellsOf words closed.cells.items
  pub cells_count : length closed.cells.items ≡ cells
  pub store_is : IsStoreOf words cells closed.store.items
  pub room_is : closed.room ≡ room
  pub reaches : min closed.tail room ≤ length closed.store.items
  pub within : length closed.store.items ≤ room

-- the words after the history h, over the opening values: a free cell shows its last Done writer, and no Open entry writes it
pub record Shows (base : List ℕ) (h : List WordsEntry) (clock : ℕ) (cells : List ClosedCell) : Type 0 where
  pub clock_is : length h ≡ clock
  pub count : length cells ≡ length base
  pub free : (c v : ℕ) (x : ClosedCell) → slice_get cells c ≡ Some x → x.lock ≡ 2 * v
      → (v ≡ version h c) × (x.value ≡ value base h c) × ((i u : ℕ) → deed h c i ≡ Will u → ⊥)
  -- the half of a lock word, locked or free, is 0 or the number of a Done entry that writes the cell
  pub written : (c : ℕ) (x : ClosedCell) → slice_get cells c ≡ Some x → IsVersionOf h c (x.lock / 2)

-- the machine's world of this history, in which its invariant holds, and which is reached by lawful events, has the clock and the cells
-- that the words show
pub record IsWorldOf (base : List ℕ) (h : List WordsEntry) (clock : ℕ) (cells : List ClosedCell) (w : World) : Type 0 where
  pub invariant : Invariant base w
  pub reached : Reached base w
  pub history_is : w.history ≡ h
  pub clock_is : w.clock ≡ clock
  pub count : length w.cells ≡ length cells
  pub cells_are : (c : ℕ) (x : ClosedCell) → slice_get cells c ≡ Some x
      → slice_get w.cells c ≡ Some (record { lock = x.lock; value = x.value })

-- a seat of the world holds the cell. It is in the middle of a run: one at rest, as that of each pass is, holds none
pub record IsHeldIn (w : World) (c : ℕ) : Type 0 where
  pub index : ℕ
  pub seat : Seat
  pub here : slice_get w.seats index ≡ Some seat
  pub holds : Holds seat c
  pub busy : is_resting seat.phase ≡ false

-- how many seats hold a cell
abbrev pub holders_in : World → ℕ
holders_in w = total_of (λ (t : Seat). if is_nil t.held then 0 else 1) w.seats

-- there is one lawful history, of a lawful opening, which the words show; a front of the store, in which is each word that is taken, has
-- the finished ranges, begins with the opening's words, and is 0 behind the tail; what a range cell holds at the end, locked or free, is 0
-- or names one of these ranges; and a lock that is held is a seat's
pub record Closes {S N : Type 0} (terms : Terms S N) (setting : S) (base opened : List ℕ) (words : ClosedWords) : Type 0 where
  pub seen : Seen N
  pub world : World
  pub is_world : IsWorldOf base seen.history words.clock words.cells.items world
  -- each entry has its note
  pub noted : length seen.notes ≡ length seen.history
  pub legal : Legal terms setting base seen
  pub shows : Shows base seen.history words.clock words.cells.items
  pub stored : (r : Range) → Has r seen.ranges → IsStored words.tail words.store.items r
  -- so they are of one store, of these words alone
  pub ranges : AreOfOneStore (length words.store.items) seen.ranges
  pub reaches : min words.tail words.room ≤ length words.store.items
  pub within : length words.store.items ≤ words.room
  pub blank : (o w : ℕ) → words.tail ≤ o → slice_get words.store.items o ≡ Some w → w ≡ 0
  pub left : (o w : ℕ) → slice_get opened o ≡ Some w → slice_get words.store.items o ≡ Some w
  pub behind : length opened ≤ words.tail
  -- each of 64 sessions was refused at most once by a step, which adds the room and one at most
  pub refused : words.tail ≤ words.room + (words.room + 1) * 64
  pub opening : Opened terms setting seen.ranges base
  pub named : (c : ℕ) (x : ClosedCell) → slice_get words.cells.items c ≡ Some x → terms.ranged setting c ≡ true → Names seen.ranges x.value
  pub held : (c : ℕ) (x : ClosedCell) → slice_get words.cells.items c ≡ Some x → x.lock % 2 ≡ 1 → IsHeldIn world c

-- what the pass had seen grows into it, its calls agree with it, and the tail is behind a staging of it that was refused
pub record EndsIn {S N : Type 0} (terms : Terms S N) (setting : S) (base opened : List ℕ) (words : ClosedWords)
    (c : Closes terms setting base opened words)
    (v : Known S N) : Type 0 where
  pub same : (y : S) → v.home.setting ≡ Some y → (y ≡ setting) × (v.home.base ≡ base)
  pub grows : SeenGrows v.seen c.seen
  pub mine : Agree terms setting base c.seen v.mine
  pub found : (n count : ℕ) → v.full ≡ Some (n, count) → n + min count (words.room + 1) ≤ words.tail

-- no lock is held, the clock is how many numbers these passes drew, of which, where each has a name of its own, none is left out; and the
-- tail is where the opening and they moved it
pub record IsStill {S N : Type 0} (opened : List ℕ) (words : ClosedWords) (given : List (Known S N)) : Type 0 where
  pub free : (c : ℕ) (x : ClosedCell) → slice_get words.cells.items c ≡ Some x → x.lock % 2 ≡ 0
  pub clock : words.clock ≡ total_of (λ (v : Known S N). length v.drawn) given
  pub every : IsDistinct eqb (map (λ (v : Known S N). v.name) given) → (n : ℕ) → 1 ≤ n → n ≤ words.clock → (v : Known S N) × Has v given
      × Has n v.drawn
  pub tail : words.tail ≡ length opened + total_of (λ (v : Known S N). v.taken + v.added) given

-- the words close a memory of so many sessions; each of the passes given ended in it, at rest, so that a seat that holds a cell is one of a
-- pass that is not among them: there are no more of these than sessions without a pass here; and where these passes are all, the words are
-- still
pub record ClosesAll {S N : Type 0} (terms : Terms S N) (setting : S) (base opened : List ℕ) (sessions : ℕ) (given : List (Known S N))
    (words : ClosedWords) :
    Type 0 where
  pub closes : Closes terms setting base opened words
  pub each : (v : Known S N) → Has v given → EndsIn terms setting base opened words closes v
  pub moved : length opened + total_of (λ (v : Known S N). v.taken + v.added) given ≤ words.tail
  pub others : holders_in closes.world + length given ≤ sessions
  pub still : length given ≡ sessions → IsStill opened words given
