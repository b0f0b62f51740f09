-- What stands at the places is of the words.
use Rattle.std.specs.Prelude.{All}
use Rattle.wordrows.specs.Seats.{StandsAt}
use Rattle.wordrows.proofs.block.answer_lines.Given as goal

abbrev pub invariant-loop-line : goal.invariant-loop-line
invariant-loop-line l = All (StandsAt l.words) l.stands.items
