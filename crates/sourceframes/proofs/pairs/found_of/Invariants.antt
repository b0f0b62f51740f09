-- What the loop of `found_of` keeps.
use Rattle.std.proofs.Common.{take}
use Rattle.sourceframes.specs.Pairs.{AreFound}
use Rattle.sourceframes.proofs.pairs.found_of.Given as goal

abbrev pub invariant-loop-pair : goal.invariant-loop-pair
invariant-loop-pair l = AreFound (take l.pair-index l.pairs) l.found
