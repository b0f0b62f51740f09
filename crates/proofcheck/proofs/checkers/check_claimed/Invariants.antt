use Rattle.std.proofs.Common.{◌-◌}
use Rattle.ranges.specs.Ranges.{Has}
use Rattle.claims.specs.Claims.{IsClaimantOf}
use Rattle.claims.proofs.Claiming.{past_all}
use Rattle.proofcheck.specs.Reports.{FoundAmong}
use Rattle.proofcheck.proofs.checkers.check_claimed.Given as goal

abbrev pub invariant-loop-place : goal.invariant-loop-place
invariant-loop-place l = record {
  own : IsClaimantOf l.numbers l.checker.claimant;
  found : FoundAmong l.framed.db.now (λ k. Has k l.checker.claimant.claimed) l.checker.found;
}

abbrev pub decreases-loop-place : goal.decreases-loop-place
decreases-loop-place l = l.numbers.count - past_all l.checker.claimant.claimed
