use Rattle.std.proofs.Common.{◌≡◌, ◌-◌, All, length}
use Rattle.claims.specs.Claims.{IsNewOf}
use Rattle.claims.specs.Rule.{dealer}
use Rattle.claims.proofs.opening.deal_all.Given as goal

abbrev pub invariant-loop : goal.invariant-loop
invariant-loop l =
    record {
      table : l.seat.table_id ≡ l.fn.seat.table_id;
      left : l.seat.me ≡ dealer l.numbers.count (l.claimants - l.counter);
      long : length l.dealt.items ≡ l.counter;
      new : All (IsNewOf l.numbers) l.dealt.items;
    }
