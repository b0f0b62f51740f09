-- What the loop of `known_as` keeps.
use Rattle.sourceediting.proofs.holding.known_as.Given as goal

abbrev pub invariant-loop-followed : goal.invariant-loop-followed
invariant-loop-followed l = Unit {0}
