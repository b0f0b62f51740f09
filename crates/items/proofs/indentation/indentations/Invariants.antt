-- What the loop of `indentations` keeps.
use Rattle.std.proofs.Common.{◌-◌, ◌≤◌, false, length}
use Rattle.source.specs.Views.{seen_pairs}
use Rattle.items.specs.Divided.{IsDivided, IsDividedFrom}
use Rattle.items.proofs.Indented.{AreIndented}
use Rattle.items.proofs.indentation.indentations.Given as goal

-- the indentations of the items so far
abbrev pub invariant-loop-item : goal.invariant-loop-item
invariant-loop-item l = record {
  within : l.at ≤ length l.source;
  so_far : AreIndented l.source l.at (seen_pairs l.pairs.items);
  divided : IsDivided l.source → IsDividedFrom false l.source l.at;
}

abbrev pub decreases-loop-item : goal.decreases-loop-item
decreases-loop-item l = length l.source - l.at
