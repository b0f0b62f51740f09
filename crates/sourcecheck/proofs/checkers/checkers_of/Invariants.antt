use Rattle.std.proofs.Common.{◌≡◌, ◌≤◌, length, map, vec_capacity}
use Rattle.sourcecheck.specs.Checkers.{checker_of}
use Rattle.sourcecheck.proofs.checkers.checkers_of.Given as goal

abbrev pub invariant-loop-claimant : goal.invariant-loop-claimant
invariant-loop-claimant l =
    (l.checkers.items ≡ map checker_of l.yielded) × (length l.checkers.items ≡ length l.yielded)
    × (length l.fn.claimants.items ≤ vec_capacity l.checkers)
