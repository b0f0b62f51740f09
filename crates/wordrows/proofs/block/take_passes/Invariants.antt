-- What stands at the places, and the passes that were taken, are of the words.
use Rattle.std.specs.Prelude.{All}
use Rattle.tlwords.specs.Callers.{SitsAt}
use Rattle.wordrows.specs.Seats.{StandsAt}
use Rattle.wordrows.proofs.block.take_passes.Given as goal

abbrev pub invariant-loop-name : goal.invariant-loop-name
invariant-loop-name l = All (StandsAt l.words) l.stands.items × All (SitsAt l.words) l.passes.items
