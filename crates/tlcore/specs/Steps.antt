-- What the functions of one event do to the cells, one seat and the history, whatever the other seats are.
use Rattle.std.specs.Prelude.{◌≡◌, ℕ, Bool, Some, None, List, length, slice_set, slice_get}
use Rattle.std.specs.Bool.{MatchBool}
use Rattle.tlcore.specs.History.{WordsEntry}
use Rattle.tlcore.specs.Seats.{Seat}
use Rattle.tlcore.specs.Machine.{Cell, World, Action, act, next, release}
use Rattle.tlcore.specs.Invariant.{Invariant}

-- the clock is the length of the history
abbrev pub world_of : List Cell → List Seat → List WordsEntry → World
world_of xs ts h = record { clock = length h; cells = xs; seats = ts; history = h }

-- the action is lawful for a seat t of a world with these cells and this history where b says so, and then leaves ys, z and g
abbrev pub Acts : List Cell → Seat → List WordsEntry → Action → Bool → List Cell → Seat → List WordsEntry → Type 0
Acts xs t h a b ys z g =
    (ts : List Seat) (s : ℕ)
    → MatchBool b (act (world_of xs ts h) s t t.phase a ≡ Some (world_of ys (slice_set ts s z) g))
    (act (world_of xs ts h) s t t.phase a ≡ None)

-- the event of the seat s is lawful in w where b says so, and then leads to v
abbrev pub IsNext : World → ℕ → Action → Bool → World → Type 0
IsNext w s a b v = MatchBool b (next w s a ≡ Some v) (next w s a ≡ None)

-- the cell's lock word is set to this word, and the seat goes on without the cell
abbrev pub Releases : List Cell → Seat → List WordsEntry → ℕ → ℕ → List Cell → Seat → List WordsEntry → Type 0
Releases xs t h c word ys z g =
    (ts : List Seat) (s : ℕ) (x : Cell) → slice_get xs c ≡ Some x
    → release (world_of xs ts h) s t c word x g ≡ world_of ys (slice_set ts s z) g

-- for some opening values the world meets the invariant
abbrev pub MeetsInvariant : World → Type 0
MeetsInvariant w = (o : List ℕ) × Invariant o w
