-- What the loop of `from_theorem` keeps: the theorem is not in front of what is left.
use Rattle.std.proofs.Common.{◌≡◌, map, length}
use Rattle.mmtext.specs.Views.{seen}
use Rattle.locating.specs.Steps.{from_theorem}
use Rattle.locating.proofs.steps.from_theorem.Given as goal

abbrev pub invariant-loop-rest : goal.invariant-loop-rest
invariant-loop-rest l = from_theorem l.label (map seen l.rest) ≡ from_theorem l.label (map seen l.words)

abbrev pub decreases-loop-rest : goal.decreases-loop-rest
decreases-loop-rest l = length l.rest
