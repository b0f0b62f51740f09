use Rattle.std.proofs.Common.{◌≡◌, ◌≤◌}
use Rattle.conduct.proofs.Inputs.{inputs_of}
use Rattle.conduct.proofs.reading.is_input_twice.Given as goal

abbrev pub invariant-loop-path : goal.invariant-loop-path
invariant-loop-path l = (l.many ≤ l.path-index) × (l.many ≡ inputs_of l.paths l.path-index)
