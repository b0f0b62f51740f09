-- What the loop of `listed_of` keeps.
use Rattle.std.proofs.Common.{map}
use Rattle.source.specs.Views.{seen_hypotheses}
use Rattle.sourceframes.specs.Frames.{AreVariables, seen_variable}
use Rattle.sourceframes.proofs.variables.listed_of.Given as goal

abbrev pub invariant-loop-hypothesis : goal.invariant-loop-hypothesis
invariant-loop-hypothesis l = AreVariables (seen_hypotheses l.yielded) (map seen_variable l.listed.items)
