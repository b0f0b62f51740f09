-- What the loop of `read_comment` keeps.
use Rattle.std.proofs.Common.{◌-◌, ◌≤◌, length}
use Rattle.comments.specs.Outside.{tokens_at}
use Rattle.comments.specs.Gathered.{IsReadSoFar}
use Rattle.comments.proofs.passing.read_comment.Given as goal

-- words of the comment were read
abbrev pub invariant-loop-token : goal.invariant-loop-token
invariant-loop-token l = record {
  within : l.at ≤ length l.text;
  later : l.from ≤ l.at;
  so_far : IsReadSoFar l.changes (tokens_at l.text l.from) (tokens_at l.text l.at) l.at l.read.items l.standing;
}

abbrev pub decreases-loop-token : goal.decreases-loop-token
decreases-loop-token l = length l.text - l.at
