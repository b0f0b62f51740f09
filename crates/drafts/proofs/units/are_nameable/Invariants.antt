-- What the loop of `are_nameable` keeps.
use Rattle.std.proofs.Common.{ℕ, ◌<◌, get_or}
use Rattle.mmsyntax.specs.declared.statement.Step.{Step}
use Rattle.mmsyntax.specs.Assertions.{IsNameable}
use Rattle.drafts.proofs.units.are_nameable.Given as goal

abbrev pub invariant-loop-i : goal.invariant-loop-i
invariant-loop-i l = (k : ℕ) (d : Step) → k < l.i → IsNameable l.prelude l.hyps (get_or l.steps k d)
