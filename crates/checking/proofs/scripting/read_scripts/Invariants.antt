use Rattle.std.proofs.Common.{map, take}
use Rattle.std.specs.Prelude.{All}
use Rattle.library.specs.Fitting.{CommandFits}
use Rattle.checking.specs.Checks.{AreScripts}
use Rattle.checking.proofs.scripting.read_scripts.Given as goal

abbrev pub invariant-loop-i : goal.invariant-loop-i
invariant-loop-i l = record {
  spelled : AreScripts l.prelude (map (λ t. t.items) (take l.i l.texts)) l.scripts.items;
  fit : All (All (All (CommandFits l.prelude))) l.scripts.items;
}
