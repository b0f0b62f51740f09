-- What the loop of `check_claimed` keeps.
use Rattle.std.proofs.Common.{◌-◌}
use Rattle.std.specs.Prelude.{IfNone, IfSome}
use Rattle.ranges.specs.Ranges.{Has}
use Rattle.claims.specs.Claims.{IsClaimantOf}
use Rattle.claims.proofs.Claiming.{past_all}
use Rattle.sourcecheck.specs.Checkers.{IsFoundAmong, Knows}
use Rattle.sourcecheck.proofs.checkers.check_claimed.Given as goal

abbrev pub invariant-loop-place : goal.invariant-loop-place
invariant-loop-place g l =
    let xs = l.framed.declared.now.stand.scope.assertions in
    record {
      own : IsClaimantOf l.numbers l.checker.claimant;
      found : IsFoundAmong xs (λ k. Has k l.checker.claimant.claimed) l.checker.found;
      knows : IfNone l.checker.found (IfSome l.own (Knows xs l.framed.frames.now));
    }

abbrev pub decreases-loop-place : goal.decreases-loop-place
decreases-loop-place g l = l.numbers.count - past_all l.checker.claimant.claimed
