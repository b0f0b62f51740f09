-- What the loop of `is_proof` keeps.
use Rattle.std.proofs.Common.{◌≡◌, ◌↔◌, drop, map}
use Rattle.sourceediting.specs.Reproved.{step_then}
use Rattle.sourceediting.proofs.planning.is_proof.Given as goal

-- what is left reads so where all does
abbrev pub invariant-loop-k : goal.invariant-loop-k
invariant-loop-k l = (map (step_then l.changes) (drop l.k l.old) ≡ drop l.k l.new) ↔ (map (step_then l.changes) l.old ≡ l.new)
