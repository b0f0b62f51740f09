-- Schedules: events in order, each of one seat, from the opening world on.
use Rattle.std.specs.Prelude.{◌≡◌, ℕ, zero, suc, ◌≤◌, Option, Some, None, List, [], ◌∷◌, length, map, take, slice_get}
use Rattle.tlcore.specs.Seats.{Seat, idle}
use Rattle.tlcore.specs.Machine.{Cell, Action, World, given, next}

-- a seat and its action
abbrev pub Event : Type 0
Event = ℕ × Action

-- the world after a schedule whose events are each lawful, and None after any other
abbrev pub run : List Event → World → Option World
run [] w = Some w
run (e ∷ es) w = given (next w e.0 e.1) (λ v. run es v)

-- v is the world after the longest front of the schedule whose events are each lawful, and `took` the length of that front
pub record IsLongestFront (w : World) (es : List Event) (v : World) (took : ℕ) : Type 0 where
  pub within : took ≤ length es
  pub lawful : run (take took es) w ≡ Some v
  pub longest : (e : Event) → slice_get es took ≡ Some e → next v e.0 e.1 ≡ None

-- ---- the opening

-- each cell is free, of version 0
abbrev pub opened : List ℕ → List Cell
opened vs = map (λ v. record { lock = 0; value = v }) vs

-- as many idle seats
abbrev pub seated : ℕ → List Seat
seated zero = []
seated (suc n) = idle ∷ seated n

-- the world before the first event
abbrev pub start : List ℕ → ℕ → World
start values seats = record { clock = 0; cells = opened values; seats = seated seats; history = [] }
