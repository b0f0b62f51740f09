-- What the loop of `put_all` keeps.
use Rattle.std.proofs.Common.{◌≡◌, drop}
use Rattle.mmsyntax.specs.Blocks.{with_pairs}
use Rattle.mmunits.proofs.pair_set.PairSet.put_all.Given as goal

-- the pairs that are left put here give what all put at the start give
abbrev pub invariant-loop-other : goal.invariant-loop-other
invariant-loop-other l = with_pairs l.variable (drop l.other-index l.earlier) l.self ≡ with_pairs l.variable l.earlier l.fn.self
