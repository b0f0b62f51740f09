-- What the loop of `numbers_of` keeps.
use Rattle.givetext.specs.Parts.{AreNumbers}
use Rattle.givetext.proofs.standing.numbers_of.Given as goal

abbrev pub invariant-loop-number : goal.invariant-loop-number
invariant-loop-number l = AreNumbers l.items l.numbers
