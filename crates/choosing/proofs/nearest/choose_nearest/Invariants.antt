-- What the loop of `choose_nearest` keeps: what is wanted, behind what was gone through.
use Rattle.std.proofs.Common.{◌≡◌, List, length}
use Rattle.mmtext.specs.Words.{Word}
use Rattle.source.specs.Scopes.{is_in}
use Rattle.prooftrees.specs.Frames.{Holds}
use Rattle.choosing.specs.Marks.{AreMarked}
use Rattle.choosing.proofs.Going.{Stands}
use Rattle.choosing.proofs.nearest.choose_nearest.Given as goal

abbrev pub invariant-loop-place : goal.invariant-loop-place
invariant-loop-place g l = record {
  frames : Holds (g.D.Declared.scope l.declared).assertions l.frames;
  long : length l.wanted.items ≡ length (g.D.Declared.scope l.declared).assertions;
  stands : (ws : List Word) → AreMarked (g.D.Declared.scope l.declared).assertions (is_in ws) l.fn.asked.items
      → Stands l.most (g.D.Declared.scope l.declared).assertions ws l.place l.wanted.items;
}
