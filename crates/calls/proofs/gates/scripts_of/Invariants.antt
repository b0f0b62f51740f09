-- What the loop of `scripts_of` keeps.
use Rattle.std.proofs.Common.{All}
use Rattle.library.specs.Fitting.{CommandFits}
use Rattle.calls.proofs.gates.scripts_of.Given as goal

abbrev pub invariant-loop-script : goal.invariant-loop-script
invariant-loop-script l = All (All (All (CommandFits l.prelude))) l.scripts.items
