use Rattle.std.proofs.Common.{◌≡◌, ◌-◌, take}
use Rattle.rooms.specs.Rooms.{staged_words}
use Rattle.rooms.proofs.needed.behind_scripts.Given as goal

abbrev pub invariant-loop-script : goal.invariant-loop-script
invariant-loop-script l = l.left ≡ l.room - staged_words l.longest (take l.script-index l.scripts)
