use Rattle.source.specs.Views.{seen_hypotheses}
use Rattle.sourcewriting.specs.Taking.{AreHypotheses}
use Rattle.sourcewriting.proofs.proving.hypotheses_of.Given as goal

abbrev pub invariant-loop-hypothesis : goal.invariant-loop-hypothesis
invariant-loop-hypothesis g l = AreHypotheses (seen_hypotheses l.yielded) l.hypotheses
