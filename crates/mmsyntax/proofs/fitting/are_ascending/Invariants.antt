-- What the loop of `are_ascending` keeps.
use Rattle.std.proofs.Common.{length}
use Rattle.std.specs.Prelude.{◌↔◌}
use Rattle.mmsyntax.proofs.Ascending.{AscendByNext}
use Rattle.mmsyntax.proofs.fitting.are_ascending.Given as goal

-- the pairs ascend where what is left does
abbrev pub invariant-loop-rest : goal.invariant-loop-rest
invariant-loop-rest l = AscendByNext l.rest ↔ AscendByNext l.pairs

abbrev pub decreases-loop-rest : goal.decreases-loop-rest
decreases-loop-rest l = length l.rest
