-- What the loop of `into_vec` keeps.
use Rattle.std.proofs.Common.{◌≡◌}
use Rattle.mmunits.proofs.pair_set.PairSet.into_vec.Given as goal

abbrev pub invariant-loop-pair : goal.invariant-loop-pair
invariant-loop-pair l = l.out.items ≡ l.yielded
