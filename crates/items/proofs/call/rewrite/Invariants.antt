-- What the loop of `rewrite` keeps.
use Rattle.std.proofs.Common.{◌-◌, ◌≤◌, false, length}
use Rattle.items.specs.Divided.{IsDivided, IsDividedFrom}
use Rattle.items.proofs.PutThen.{ArePut}
use Rattle.items.proofs.call.rewrite.Given as goal

-- the items so far were put
abbrev pub invariant-loop-item : goal.invariant-loop-item
invariant-loop-item l = record {
  within : l.at ≤ length l.source;
  put : ArePut l.changes l.proofs l.source l.at l.out.items;
  divided : IsDivided l.source → IsDividedFrom false l.source l.at;
}

abbrev pub decreases-loop-item : goal.decreases-loop-item
decreases-loop-item l = length l.source - l.at
