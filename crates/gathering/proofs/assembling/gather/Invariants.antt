-- What the loop of `gather` keeps: with what is taken of the assertions that are left, all is taken.
use Rattle.std.proofs.Common.{◌≡◌, ◌++◌, [], List, take, drop}
use Rattle.mmsyntax.specs.declared.statement.Assertion.{Assertion as Unit'}
use Rattle.prooftrees.specs.Frames.{Holds}
use Rattle.taking.specs.Reasons.{Choice, AreFlags, told_in}
use Rattle.taking.specs.Taken.{AreTaken, taken_as_axioms}
use Rattle.gathering.specs.Placed.{map_of, tables_of}
use Rattle.gathering.proofs.assembling.gather.Given as goal

abbrev pub invariant-loop-place : goal.invariant-loop-place
invariant-loop-place g l = record {
  frames : Holds (g.D.Declared.scope l.declared).assertions l.frames;
  taken : (choice : Choice)
      → AreFlags (g.D.Declared.scope l.declared) choice l.flags.chosen.now l.flags.front.now l.flags.long.now → (later : List Unit')
      → AreTaken (map_of l.placed.sites.now l.placed.names.now) (tables_of l.placed.sites.now l.placed.names.now) choice
      (take l.place (g.D.Declared.scope l.declared).assertions) (drop l.place (g.D.Declared.scope l.declared).assertions) later
      → AreTaken (map_of l.placed.sites.now l.placed.names.now) (tables_of l.placed.sites.now l.placed.names.now) choice []
      (g.D.Declared.scope l.declared).assertions (l.gathered.assertions.items ++ later);
  told : (choice : Choice)
      → AreFlags (g.D.Declared.scope l.declared) choice l.flags.chosen.now l.flags.front.now l.flags.long.now
      → taken_as_axioms choice [] (g.D.Declared.scope l.declared).assertions
      ≡ told_in l.gathered.axioms.items
      ++ taken_as_axioms choice (take l.place (g.D.Declared.scope l.declared).assertions)
      (drop l.place (g.D.Declared.scope l.declared).assertions);
}
