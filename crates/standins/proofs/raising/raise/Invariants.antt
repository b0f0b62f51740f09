-- What the loop of `raise` keeps: the scripts so far.
use Rattle.std.proofs.Common.{◌≡◌, map, take}
use Rattle.standins.specs.StandIns.{raised_command}
use Rattle.standins.proofs.raising.raise.Given as goal

abbrev pub invariant-loop-script : goal.invariant-loop-script
invariant-loop-script l = l.made.items ≡ map (map (map (raised_command l.by))) (take l.script-index l.scripts)
