-- What the loop of `puts_of` keeps.
use Rattle.sourceediting.specs.Filled.{IsFilledTo}
use Rattle.sourceediting.proofs.filling.puts_of.Given as goal

-- those so far were gone through
abbrev pub invariant-loop-number : goal.invariant-loop-number
invariant-loop-number l = IsFilledTo l.number l.filling
