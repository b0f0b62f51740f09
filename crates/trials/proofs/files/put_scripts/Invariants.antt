use Rattle.std.specs.Prelude.{All}
use Rattle.library.specs.Fitting.{CommandFits}
use Rattle.trials.proofs.files.put_scripts.Given as goal

abbrev pub invariant-loop-path : goal.invariant-loop-path
invariant-loop-path g l = All (All (All (CommandFits l.prelude))) l.scripts.items
