use Rattle.std.proofs.Common.{◌≡◌, ◌≤◌, length, vec_capacity}
use Rattle.transaction.specs.Closings.{AreTaken}
use Rattle.transaction.proofs.closing.take_all.Given as goal

abbrev pub invariant-loop-session : goal.invariant-loop-session
invariant-loop-session l =
    AreTaken l.yielded l.passes.items l.records.items
    × (length l.passes.items ≡ length l.yielded) × (length l.records.items ≡ length l.yielded)
    × (length l.fn.sessions.items ≤ vec_capacity l.passes) × (length l.fn.sessions.items ≤ vec_capacity l.records)
