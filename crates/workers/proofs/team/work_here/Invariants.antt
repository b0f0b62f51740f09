use Rattle.std.proofs.Common.{◌≡◌, ◌+◌, ◌≤◌, ◌++◌, length, map, vec_capacity}
use Rattle.std.specs.Iterator.Adapters.{zip_first, zip_second}
use Rattle.std.specs.Vec.Iter.{into_iter_items, into_iter_len}
use Rattle.workers.specs.Shifts.{AreShifts}
use Rattle.workers.proofs.team.work_here.Given as goal

abbrev pub invariant-loop-session : goal.invariant-loop-session
invariant-loop-session g l =
    let sessions = map (λ p. p.0) l.yielded in
    let claimants = map (λ p. p.1) l.yielded in
    let first = zip_first l.session-iterator in
    let second = zip_second l.session-iterator in
    AreShifts l.fn.shop.scripts.now sessions claimants l.shifts.items
    × (sessions ++ into_iter_items first ≡ l.fn.sessions.items) × (claimants ++ into_iter_items second ≡ l.fn.claimants.items)
    × (length l.yielded + into_iter_len first ≡ length l.fn.sessions.items)
    × (length l.yielded + into_iter_len second ≡ length l.fn.claimants.items)
    × (length l.shifts.items ≡ length l.yielded) × (length l.fn.sessions.items ≤ vec_capacity l.shifts)
