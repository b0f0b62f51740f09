-- What the loop of `frames_of` keeps.
use Rattle.std.proofs.Common.{◌≡◌, length, take}
use Rattle.sourceframes.specs.Names.{words_of, IsSound, Lasts}
use Rattle.sourceframes.specs.Frames.{AreFrames}
use Rattle.sourcecheck.proofs.sources.frames_of.Given as goal

abbrev pub invariant-loop-place : goal.invariant-loop-place
invariant-loop-place g l = record {
  sound : IsSound l.table;
  many : length l.frames.items ≡ l.place;
  frames : Lasts (words_of l.table) (λ name. AreFrames name (take l.place (g.D.Declared.scope l.declared).assertions) l.frames.items);
}
