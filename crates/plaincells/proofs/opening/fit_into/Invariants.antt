use Rattle.std.proofs.Common.{◌≡◌, ◌+◌, take}
use Rattle.plaincells.specs.Measures.{all_bodies_length}
use Rattle.plaincells.proofs.opening.fit_into.Given as goal

abbrev pub invariant-loop-assertion : goal.invariant-loop-assertion
invariant-loop-assertion l = l.left + all_bodies_length (take l.assertion-index l.assertions) ≡ l.room
