use Rattle.std.proofs.Common.{◌≡◌, ◌≤◌, length, map, vec_capacity}
use Rattle.std.specs.List.{AllZip}
use Rattle.workers.specs.Shifts.{IsKept}
use Rattle.workers.proofs.team.wait_for_all.Given as goal

abbrev pub invariant-loop-handle : goal.invariant-loop-handle
invariant-loop-handle g l =
    AllZip IsKept (map (λ h. h.promise) l.yielded) l.shifts.items
    × (length l.shifts.items ≡ length l.yielded) × (length l.fn.handles.items ≤ vec_capacity l.shifts)
