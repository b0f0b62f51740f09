-- What the loop of `copies_of` keeps.
use Rattle.std.proofs.Common.{◌≡◌, map}
use Rattle.source.specs.Views.{seen_hypothesis, seen_hypotheses}
use Rattle.explaining.proofs.assertion.copies_of.Given as goal

abbrev pub invariant-loop-hypothesis : goal.invariant-loop-hypothesis
invariant-loop-hypothesis l = map seen_hypothesis l.copies.items ≡ seen_hypotheses l.yielded
