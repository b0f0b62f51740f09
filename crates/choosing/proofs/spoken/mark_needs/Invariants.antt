-- What the loop of `mark_needs` keeps: what the proofs so far need is marked.
use Rattle.std.proofs.Common.{Bool, [], take}
use Rattle.std.specs.Prelude.{◌||◌}
use Rattle.mmtext.specs.Words.{Word}
use Rattle.source.specs.Scopes.{is_in}
use Rattle.prooftrees.specs.Frames.{Holds}
use Rattle.choosing.specs.Marks.{AreMarked}
use Rattle.choosing.specs.Spoken.{needs}
use Rattle.choosing.proofs.spoken.mark_needs.Given as goal

abbrev pub invariant-loop-place : goal.invariant-loop-place
invariant-loop-place g l = record {
  frames : Holds (g.D.Declared.scope l.declared).assertions l.frames;
  marked : (asks test : Word → Bool) → AreMarked (g.D.Declared.scope l.declared).assertions asks l.asked
      → AreMarked (g.D.Declared.scope l.declared).assertions test l.fn.marks
      → AreMarked (g.D.Declared.scope l.declared).assertions
      (λ w. is_in (needs asks [] (take l.place (g.D.Declared.scope l.declared).assertions)) w || test w) l.marks;
}
