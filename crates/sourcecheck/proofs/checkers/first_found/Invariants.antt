use Rattle.std.proofs.Common.{◌≡◌, ◌≤◌, None, length, map, vec_capacity}
use Rattle.sourcecheck.specs.Found.{earliest}
use Rattle.sourcecheck.proofs.checkers.first_found.Given as goal

abbrev pub invariant-loop-checker : goal.invariant-loop-checker
invariant-loop-checker l =
    (l.first ≡ earliest None (map (λ c. c.found) l.yielded)) × (l.claimants.items ≡ map (λ c. c.claimant) l.yielded)
    × (length l.claimants.items ≡ length l.yielded) × (length l.fn.checkers.items ≤ vec_capacity l.claimants)
