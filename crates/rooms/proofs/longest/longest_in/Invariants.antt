use Rattle.std.proofs.Common.{◌≡◌, take}
use Rattle.rooms.specs.Rooms.{longest_proof}
use Rattle.rooms.proofs.longest.longest_in.Given as goal

abbrev pub invariant-loop-script : goal.invariant-loop-script
invariant-loop-script l = l.longest ≡ longest_proof l.db (take l.script-index l.scripts)
