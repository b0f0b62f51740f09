use Rattle.std.proofs.Common.{◌≡◌, ◌-◌, take}
use Rattle.plaincells.specs.Measures.{all_bodies_length}
use Rattle.rooms.proofs.needed.behind_assertions.Given as goal

abbrev pub invariant-loop-assertion : goal.invariant-loop-assertion
invariant-loop-assertion l = l.left ≡ l.room - all_bodies_length (take l.assertion-index l.assertions)
