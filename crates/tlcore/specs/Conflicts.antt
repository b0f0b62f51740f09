-- Conflicts have their own cause: another seat held the cell since the run began. And who holds a cell has locked it, as its list tells.
use Rattle.std.specs.Prelude.{◌≡◌, ◌≢◌, ◌⊎◌, ◌==◌, ℕ, true, false, Option, Some, None, List, [], ◌∷◌, ◌++◌, slice_get}
use Rattle.std.specs.List.{list_any}
use Rattle.tlcore.specs.Seats.{Held, Seat, find_held}
use Rattle.tlcore.specs.Machine.{World, Action, Begin, Look, Load, Relook, Take, Draw, Check, Store, Release, next}
use Rattle.tlcore.specs.Schedules.{Event, run, start}
use Rattle.tlcore.specs.Invariant.{Holds}

-- the cell of an action
abbrev pub cell_of : Action → Option ℕ
cell_of Begin = None
cell_of (Look c) = Some c
cell_of (Load c) = Some c
cell_of (Relook c) = Some c
cell_of (Take c v) = Some c
cell_of Draw = None
cell_of (Check c) = Some c
cell_of (Store c) = Some c
cell_of (Release c) = Some c

-- another seat than s holds the lock of the cell
abbrev pub HeldByOther : World → ℕ → ℕ → Type 0
HeldByOther w s c = (z : ℕ) × (t : Seat) × (k : Held) × (z ≢ s) × (slice_get w.seats z ≡ Some t) × (find_held c t.held ≡ Some k)

-- at some moment of the schedule from w on, another seat than s holds the cell. Who releases it then held it before
abbrev pub HeldMeanwhile : World → List Event → ℕ → ℕ → Type 0
HeldMeanwhile w es s c =
    (front : List Event) × (rest : List Event) × (v : World) × (front ++ rest ≡ es) × (run front w ≡ Some v) × HeldByOther v s c

-- none of these events is a Begin of s
abbrev pub NoBegin : ℕ → List Event → Type 0
NoBegin s [] = Unit {0}
NoBegin s (e ∷ es) = (e.0 ≡ s → e.1 ≢ Begin) × NoBegin s es

-- where the action a of the seat s met a conflict, another seat held the action's cell at some moment from the world w on
abbrev pub ConflictHasCause : World → List Event → World → ℕ → Action → World → Type 0
ConflictHasCause w es before s a after =
    (t u : Seat) → slice_get before.seats s ≡ Some t → slice_get after.seats s ≡ Some u → t.conflicted ≡ false → u.conflicted ≡ true
    → (c : ℕ) × (cell_of a ≡ Some c) × HeldMeanwhile w es s c

-- in every schedule: a run of s begins, goes on without another Begin of s, and then takes an action
abbrev pub ConflictsHaveCause : Type 0
ConflictsHaveCause =
    (values : List ℕ) (seats : ℕ) (front meanwhile : List Event) (seat : ℕ) (action : Action) (before begun last after : World)
    → run front (start values seats) ≡ Some before → next before seat Begin ≡ Some begun
    → NoBegin seat meanwhile → run meanwhile begun ≡ Some last → next last seat action ≡ Some after
    → ConflictHasCause begun meanwhile last seat action after

-- from the seat t on until it was u it has locked these cells, the newest first; and each that it holds then it held before, or is one of
-- them
pub record HasLocked (t u : Seat) : Type 0 where
  pub cells : List ℕ
  pub locked : u.locked ≡ cells ++ t.locked
  pub held : (c : ℕ) → Holds u c → Holds t c ⊎ (list_any (λ d. d == c) cells ≡ true)

-- in every schedule, from each world on
abbrev pub HoldersHaveLocked : Type 0
HoldersHaveLocked =
    (es : List Event) (now later : World) (s : ℕ) (t u : Seat)
    → run es now ≡ Some later → slice_get now.seats s ≡ Some t → slice_get later.seats s ≡ Some u → HasLocked t u
