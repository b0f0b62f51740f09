-- What the loop of `end_of_comment` keeps.
use Rattle.std.proofs.Common.{◌-◌, ◌≤◌, true, [], length}
use Rattle.comments.specs.Outside.{tokens_at}
use Rattle.comments.specs.Passing.{IsPassing}
use Rattle.comments.proofs.passing.end_of_comment.Given as goal

-- tokens of the comment were passed over
abbrev pub invariant-loop-token : goal.invariant-loop-token
invariant-loop-token l = record {
  within : l.at ≤ length l.text;
  later : l.from ≤ l.at;
  passing : IsPassing true [] (tokens_at l.text l.from) (tokens_at l.text l.at) l.at;
}

abbrev pub decreases-loop-token : goal.decreases-loop-token
decreases-loop-token l = length l.text - l.at
