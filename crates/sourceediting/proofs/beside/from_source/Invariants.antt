-- What the loop of `from_source` keeps.
use Rattle.sourceediting.proofs.beside.from_source.Given as goal

abbrev pub invariant-loop-followed : goal.invariant-loop-followed
invariant-loop-followed l = Unit {0}
