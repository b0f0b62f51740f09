-- What the loop of `make_room` keeps.
use Rattle.std.proofs.Common.{◌-◌, ◌+◌, List, length}
use Rattle.source.specs.Scopes.{Assertion}
use Rattle.prooftrees.specs.Frames.{Holds}
use Rattle.prooftrees.proofs.frames.Frames.make_room.Given as goal

abbrev pub invariant-loop-self : goal.invariant-loop-self
invariant-loop-self l = (xs : List Assertion) → Holds xs l.initial.self → Holds xs l.self

abbrev pub decreases-loop-self : goal.decreases-loop-self
decreases-loop-self l = (l.place + 1) - length l.self.floats.items
