-- What the loop of `needed_between` keeps: what the proofs so far need.
use Rattle.std.proofs.Common.{◌≡◌, length, take}
use Rattle.source.specs.Scopes.{is_in}
use Rattle.prooftrees.specs.Frames.{Holds}
use Rattle.choosing.specs.Choices.{needed_by_all}
use Rattle.choosing.specs.Marks.{AreMarked, from_to}
use Rattle.choosing.proofs.between.needed_between.Given as goal

abbrev pub invariant-loop-place : goal.invariant-loop-place
invariant-loop-place g l = record {
  frames : Holds (g.D.Declared.scope l.declared).assertions l.frames;
  long : length l.wanted.items ≡ length (g.D.Declared.scope l.declared).assertions;
  wanted : AreMarked (g.D.Declared.scope l.declared).assertions
      (is_in (needed_by_all (take l.begin (g.D.Declared.scope l.declared).assertions)
      (from_to l.begin l.place (g.D.Declared.scope l.declared).assertions))) l.wanted.items;
}
