use Rattle.std.proofs.Common.{take, ◌≡◌}
use Rattle.tlcore.proofs.machine.copy_seats.Given as goal

-- the copies so far are the first seats
abbrev pub invariant-loop-seat : goal.invariant-loop-seat
invariant-loop-seat l = l.copies.items ≡ take l.seat-index l.seats
