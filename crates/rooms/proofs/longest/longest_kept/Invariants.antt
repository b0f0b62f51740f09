use Rattle.std.proofs.Common.{◌≡◌, take}
use Rattle.rooms.specs.Rooms.{largest_by, proof_steps}
use Rattle.rooms.proofs.longest.longest_kept.Given as goal

abbrev pub invariant-loop-assertion : goal.invariant-loop-assertion
invariant-loop-assertion l = l.longest ≡ largest_by proof_steps (take l.assertion-index l.assertions)
