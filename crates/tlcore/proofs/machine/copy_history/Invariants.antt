use Rattle.std.proofs.Common.{take, ◌≡◌}
use Rattle.tlcore.proofs.machine.copy_history.Given as goal

-- the copies so far are the first entries
abbrev pub invariant-loop-entry : goal.invariant-loop-entry
invariant-loop-entry l = l.copies.items ≡ take l.entry-index l.history
