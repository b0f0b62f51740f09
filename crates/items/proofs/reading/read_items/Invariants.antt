-- What the loop of `read_items` keeps.
use Rattle.std.proofs.Common.{◌-◌, ◌≤◌, false, length}
use Rattle.items.specs.Divided.{IsDivided, IsDividedFrom}
use Rattle.items.proofs.Found.{AreFoundTo}
use Rattle.items.proofs.reading.read_items.Given as goal

-- the items so far were found
abbrev pub invariant-loop-item : goal.invariant-loop-item
invariant-loop-item l = record {
  within : l.at ≤ length l.text;
  found : AreFoundTo l.text l.at l.items.items;
  divided : IsDivided l.text → IsDividedFrom false l.text l.at;
}

abbrev pub decreases-loop-item : goal.decreases-loop-item
decreases-loop-item l = length l.text - l.at
