use Rattle.std.proofs.Common.{◌≡◌}
use Rattle.tlcore.specs.Schedules.{seated}
use Rattle.tlcore.proofs.machine.idle_seats.Given as goal

-- as many idle seats as the loop has made
abbrev pub invariant-loop-i : goal.invariant-loop-i
invariant-loop-i l = l.all.items ≡ seated l._i
