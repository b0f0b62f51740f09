-- What the loop of `first_floats` keeps: the first $f so far.
use Rattle.std.proofs.Common.{take}
use Rattle.sites.specs.Given.{given_hypotheses}
use Rattle.sites.specs.Actives.{FindsFloats}
use Rattle.sites.proofs.active.first_floats.Given as goal

abbrev pub invariant-loop-hypothesis : goal.invariant-loop-hypothesis
invariant-loop-hypothesis l = FindsFloats l.floats l.sites.floats (given_hypotheses (take l.hypothesis-index l.hypotheses))
