-- What the loops of `all_of` keep: the hypotheses so far.
use Rattle.std.proofs.Common.{◌≡◌, ◌++◌, map, take}
use Rattle.source.specs.Views.{seen_hypothesis, seen_hypotheses}
use Rattle.pasting.proofs.theorem.all_of.Given as goal

abbrev pub invariant-loop-hypothesis : goal.invariant-loop-hypothesis
invariant-loop-hypothesis l = seen_hypotheses l.made.items ≡ map seen_hypothesis (take l.hypothesis-index l.floats)

abbrev pub invariant-loop-hypothesis-2 : goal.invariant-loop-hypothesis-2
invariant-loop-hypothesis-2 l =
    seen_hypotheses l.made.items ≡ map seen_hypothesis l.floats ++ map seen_hypothesis (take l.hypothesis-index l.premises)
