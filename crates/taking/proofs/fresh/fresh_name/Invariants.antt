-- What the loop of `fresh_name` keeps: no candidate so far is free.
use Rattle.std.proofs.Common.{◌≡◌, ◌<◌, ℕ, false}
use Rattle.taking.specs.Fresh.{candidate}
use Rattle.taking.proofs.fresh.fresh_name.Given as goal

abbrev pub invariant-loop-number : goal.invariant-loop-number
invariant-loop-number g l = (j : ℕ) → j < l.number → g.N.FreeNames.is_free l.names (candidate l.word j) ≡ false
