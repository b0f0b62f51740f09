use Rattle.std.proofs.Common.{◌≡◌, ◌≤◌, length, map, take, vec_capacity}
use Rattle.finishing.proofs.ending.values_of.Given as goal

abbrev pub invariant-loop-cell : goal.invariant-loop-cell
invariant-loop-cell l = (l.values.items ≡ map (λ x. x.value) (take l.cell-index l.cells)) × (length l.cells ≤ vec_capacity l.values)
