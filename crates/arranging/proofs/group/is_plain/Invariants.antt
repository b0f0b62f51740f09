-- What the loop of `is_plain` keeps.
use Rattle.std.proofs.Common.{◌≡◌, ◌-◌, ◌≤◌, length}
use Rattle.mmtext.specs.Comments.{words_of}
use Rattle.items.specs.Reading.{tokens_at}
use Rattle.arranging.specs.Written.{opens_comment}
use Rattle.arranging.proofs.group.is_plain.Given as goal

-- a comment begins from here on just where one begins at all
abbrev pub invariant-loop-token : goal.invariant-loop-token
invariant-loop-token l = record {
  within : l.at ≤ length l.text;
  so_far : opens_comment (words_of (tokens_at l.text l.at)) ≡ opens_comment (words_of (tokens_at l.text 0));
}

abbrev pub decreases-loop-token : goal.decreases-loop-token
decreases-loop-token l = length l.text - l.at
