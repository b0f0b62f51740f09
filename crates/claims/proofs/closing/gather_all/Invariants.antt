use Rattle.std.proofs.Common.{◌≡◌, All}
use Rattle.claims.specs.Claims.{IsClaimantOf}
use Rattle.claims.specs.Rule.{gathered}
use Rattle.claims.proofs.closing.gather_all.Given as goal

abbrev pub invariant-loop-claimant : goal.invariant-loop-claimant
invariant-loop-claimant l =
    record {
      table : l.seat.table_id ≡ l.fn.seat.table_id;
      id : l.seat.id ≡ l.fn.seat.id;
      me : gathered l.seat.me l.claimants.items ≡ gathered l.fn.seat.me l.fn.claimants.items;
      own : All (IsClaimantOf l.numbers) l.claimants.items;
    }

abbrev pub decreases-loop-claimant : goal.decreases-loop-claimant
decreases-loop-claimant l = goal.left-loop-claimant l
