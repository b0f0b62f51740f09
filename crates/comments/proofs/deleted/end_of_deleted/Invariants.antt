-- What the loop of `end_of_deleted` keeps.
use Rattle.std.proofs.Common.{◌-◌, ◌≤◌, length}
use Rattle.comments.specs.Outside.{tokens_at}
use Rattle.comments.specs.Insides.{labels_in}
use Rattle.comments.specs.Blocks.{IsInside}
use Rattle.comments.proofs.deleted.end_of_deleted.Given as goal

-- the inside of the block was read so far
abbrev pub invariant-loop-token : goal.invariant-loop-token
invariant-loop-token l = record {
  within : l.at ≤ length l.text;
  read : IsInside (labels_in l.gone) (tokens_at l.text l.from) (tokens_at l.text l.at) l.inside;
}

abbrev pub decreases-loop-token : goal.decreases-loop-token
decreases-loop-token l = length l.text - l.at
