-- What the loop of `read_all` keeps: the scripts so far as they are read.
use Rattle.std.proofs.Common.{List, take}
use Rattle.std.specs.Prelude.{All}
use Rattle.library.specs.Fitting.{CommandFits}
use Rattle.checking.specs.Checks.{AreScripts}
use Rattle.editscripts.specs.Expanded.{RankedScript, texts_of}
use Rattle.editscripts.specs.Views.{AreLaid}
use Rattle.editscripts.proofs.expanded.read_all.Given as goal

abbrev pub invariant-loop-place : goal.invariant-loop-place
invariant-loop-place l = record {
  scripts : (outs : List RankedScript) → AreLaid outs l.all → AreScripts l.prelude (texts_of (take l.place outs)) l.scripts.items;
  fit : All (All (All (CommandFits l.prelude))) l.scripts.items;
}
