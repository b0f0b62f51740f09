-- What the loop of `mentioned_of` keeps.
use Rattle.std.proofs.Common.{◌≡◌, ◌-◌, ◌≤◌, ◌++◌, map, filter, length}
use Rattle.mmtext.specs.Views.{seen}
use Rattle.source.specs.Scopes.{is_in}
use Rattle.commentwords.specs.Views.{tokens_at}
use Rattle.mentions.specs.Mentioned.{mentioned_in, silent_from}
use Rattle.mentions.proofs.mentioned.mentioned_of.Given as goal

-- those so far were found, and the others are among the tokens from here on
abbrev pub invariant-loop-token : goal.invariant-loop-token
invariant-loop-token l = record {
  within : l.at ≤ length l.text;
  found : mentioned_in (map (λ c. c.0) l.labels) l.text
      ≡ map seen l.found.items ++ filter (λ t. is_in (map (λ c. c.0) l.labels) t.text) (silent_from l.comment (tokens_at l.text l.at));
}

abbrev pub decreases-loop-token : goal.decreases-loop-token
decreases-loop-token l = length l.text - l.at
