-- The passes that are left, and what stands at the places, are of the words. Each turn takes a pass.
use Rattle.std.specs.Prelude.{All, length}
use Rattle.tlwords.specs.Callers.{AreOfOneOpening}
use Rattle.wordrows.specs.Seats.{StandsAt}
use Rattle.wordrows.proofs.block.seat_all.Given as goal

abbrev pub invariant-loop-pass : goal.invariant-loop-pass
invariant-loop-pass l = All (AreOfOneOpening l.words) l.passes.items × All (StandsAt l.words) l.stands.items

abbrev pub decreases-loop-pass : goal.decreases-loop-pass
decreases-loop-pass l = length l.passes.items
