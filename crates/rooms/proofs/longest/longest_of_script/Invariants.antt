use Rattle.std.proofs.Common.{◌≡◌, max, take}
use Rattle.rooms.specs.Rooms.{brought_steps, largest_by}
use Rattle.rooms.proofs.longest.longest_of_script.Given as goal

abbrev pub invariant-loop-transaction : goal.invariant-loop-transaction
invariant-loop-transaction l =
    l.longest ≡ max l.before (largest_by (largest_by brought_steps) (take l.transaction-index l.transaction-items))
