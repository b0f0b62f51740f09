-- What the loop of `number_of` keeps.
use Rattle.sourceediting.proofs.beside.number_of.Given as goal

abbrev pub invariant-loop-number : goal.invariant-loop-number
invariant-loop-number l = Unit {0}
