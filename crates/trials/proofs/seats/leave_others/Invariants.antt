-- The sessions that are left are of the library, and those before the place are there.
use Rattle.std.proofs.Common.{◌≤◌, All, length}
use Rattle.transaction.specs.Members.{IsSessionOf}
use Rattle.trials.proofs.seats.leave_others.Given as goal

abbrev pub invariant-loop-place : goal.invariant-loop-place
invariant-loop-place l = All (IsSessionOf l.library) l.sessions.items × (l.place ≤ length l.sessions.items)
