-- What the loop of `comment_texts` keeps.
use Rattle.std.proofs.Common.{◌-◌, ◌≤◌, length}
use Rattle.comments.specs.Outside.{tokens_at}
use Rattle.comments.specs.Insides.{labels_in}
use Rattle.comments.specs.Walks.{IsWalked}
use Rattle.comments.proofs.walking.comment_texts.Given as goal

-- the tokens up to a place are walked over, and the others stand behind it
abbrev pub invariant-loop-token : goal.invariant-loop-token
invariant-loop-token l = record {
  within : l.at ≤ length l.source;
  walked : IsWalked l.changes (labels_in l.gone) l.source (tokens_at l.source l.at) l.at l.walk;
}

abbrev pub decreases-loop-token : goal.decreases-loop-token
decreases-loop-token l = length l.source - l.at
