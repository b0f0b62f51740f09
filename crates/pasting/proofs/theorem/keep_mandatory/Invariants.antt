-- What the loop of `keep_mandatory` keeps: the mandatory ones so far.
use Rattle.std.proofs.Common.{◌≡◌, ◌++◌, map, take}
use Rattle.std.specs.Prelude.{filter}
use Rattle.source.specs.Scopes.{is_mandatory}
use Rattle.source.specs.Views.{seen_hypothesis, seen_hypotheses, seen_words}
use Rattle.pasting.proofs.theorem.keep_mandatory.Given as goal

abbrev pub invariant-loop-hypothesis : goal.invariant-loop-hypothesis
invariant-loop-hypothesis l = seen_hypotheses l.made.items ≡ seen_hypotheses l.fn.made.items
    ++ filter (is_mandatory (map seen_hypothesis l.premises) (seen_words l.statement))
    (map seen_hypothesis (take l.hypothesis-index l.hypotheses))
