use Rattle.std.proofs.Common.{◌≡◌, ◌-◌, ◌++◌, map}
use Rattle.std.specs.List.Sorted.{IsStrictlyIncreasing}
use Rattle.claims.specs.Claims.{IsClaimantOf}
use Rattle.transaction.specs.Members.{IsSessionOf}
use Rattle.workers.specs.Shifts.{RunsAll}
use Rattle.claims.proofs.Claiming.{past_all}
use Rattle.workers.proofs.shift.run_claimed.Given as goal

abbrev pub invariant-loop-script : goal.invariant-loop-script
invariant-loop-script g l =
    let now = l.shift in
    let first = l.fn.shift in
    let ran = map (λ row. row.script) now.rows.items in
    record {
      own : IsSessionOf l.shop.library.now now.session;
      claims : IsClaimantOf l.shop.numbers.now now.claimant;
      runs : RunsAll l.shop.scripts.now first.session now.session now.rows.items;
      table : now.claimant.table ≡ first.claimant.table;
      count : now.claimant.count ≡ first.claimant.count;
      claimed : now.claimant.claimed ≡ first.claimant.claimed ++ ran;
      rises : IsStrictlyIncreasing ran;
    }

abbrev pub decreases-loop-script : goal.decreases-loop-script
decreases-loop-script g l = l.shop.numbers.now.count - past_all l.shift.claimant.claimed
