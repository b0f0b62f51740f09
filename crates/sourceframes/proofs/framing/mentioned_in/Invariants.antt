-- What the loop of `mentioned_in` keeps.
use Rattle.std.proofs.Common.{◌≡◌}
use Rattle.mmtext.specs.Words.{Word}
use Rattle.source.specs.Scopes.{is_in, is_mandatory_variable}
use Rattle.source.specs.Views.{seen_words, seen_hypotheses}
use Rattle.sourceframes.proofs.framing.mentioned_in.Given as goal

abbrev pub invariant-loop-hypothesis : goal.invariant-loop-hypothesis
invariant-loop-hypothesis l =
    (w : Word) → is_in (seen_words l.mentioned.items) w ≡ is_mandatory_variable (seen_hypotheses l.yielded) (seen_words l.statement) w
