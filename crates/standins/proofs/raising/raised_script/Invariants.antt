-- What the loop of `raised_script` keeps: the transactions so far.
use Rattle.std.proofs.Common.{◌≡◌, map, take}
use Rattle.standins.specs.StandIns.{raised_command}
use Rattle.standins.proofs.raising.raised_script.Given as goal

abbrev pub invariant-loop-transaction : goal.invariant-loop-transaction
invariant-loop-transaction l = l.made.items ≡ map (map (raised_command l.by)) (take l.transaction-index l.transaction-items)
