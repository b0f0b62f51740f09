use Rattle.std.proofs.Common.{ℕ, ◌<◌, get_or}
use Rattle.mmsyntax.specs.declared.statement.Step.{Step}
use Rattle.mmsyntax.specs.Assertions.{CitesApart}
use Rattle.mmsyntax.proofs.fitting.are_citing_apart.Given as goal

abbrev pub invariant-loop-i : goal.invariant-loop-i
invariant-loop-i l = (k : ℕ) (d : Step) → k < l.i → CitesApart l.label (get_or l.steps k d)
