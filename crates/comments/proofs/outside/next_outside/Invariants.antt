-- What the loop of `next_outside` keeps.
use Rattle.std.proofs.Common.{◌-◌, ◌≤◌, length}
use Rattle.comments.specs.Outside.{tokens_at, IsPassedOver}
use Rattle.comments.proofs.outside.next_outside.Given as goal

-- only comments were passed over
abbrev pub invariant-loop-token : goal.invariant-loop-token
invariant-loop-token l = record {
  within : l.at ≤ length l.text;
  later : l.from ≤ l.at;
  passed : IsPassedOver (tokens_at l.text l.from) (tokens_at l.text l.at);
}

abbrev pub decreases-loop-token : goal.decreases-loop-token
decreases-loop-token l = length l.text - l.at
