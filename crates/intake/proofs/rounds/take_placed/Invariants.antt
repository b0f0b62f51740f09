-- What the rounds of `take_placed` keep: each theorem whose flag is set has too long a proof in whatever is taken of what is chosen.
use Rattle.std.proofs.Common.{length}
use mathlib.Core.Bool.{not}
use Rattle.std.specs.Prelude.{filter}
use Rattle.choosing.specs.Choices.{IsChosen}
use Rattle.choosing.specs.declared.wish.Wish.{Wish}
use Rattle.prooftrees.specs.Frames.{Holds}
use Rattle.gathering.specs.Placed.{map_of, tables_of}
use Rattle.intake.specs.Parts.{AreChosen}
use Rattle.intake.proofs.rounds.take_placed.Given as goal

abbrev pub invariant-loop-long : goal.invariant-loop-long
invariant-loop-long g l = record {
  frames : Holds (g.D.Declared.scope l.declared).assertions l.frames;
  known : (w : Wish) → IsChosen (g.D.Declared.scope l.declared) w l.selection
      → AreChosen (g.D.Declared.scope l.declared) w (map_of l.placed.sites.now l.placed.names.now)
      (tables_of l.placed.sites.now l.placed.names.now) l.chosen l.front l.long.items;
}

-- how many flags are left
abbrev pub decreases-loop-long : goal.decreases-loop-long
decreases-loop-long g l = length (filter not l.long.items)
