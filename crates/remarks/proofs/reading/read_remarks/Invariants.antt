-- What the loop of `read_remarks` keeps.
use Rattle.std.proofs.Common.{◌≤◌, ◌-◌, false, length}
use Rattle.source.specs.Views.{seen_words}
use Rattle.items.specs.Divided.{IsDividedFrom}
use Rattle.remarks.proofs.Read.{AreRead}
use Rattle.remarks.proofs.reading.read_remarks.Given as goal

-- the labels so far were put, and what is left is items
abbrev pub invariant-loop-item : goal.invariant-loop-item
invariant-loop-item l = record {
  within : l.at ≤ length l.text;
  read : AreRead l.text l.at l.front (seen_words l.remarks.modification.items) (seen_words l.remarks.usage.items);
  divided : IsDividedFrom false l.text l.at;
}

abbrev pub decreases-loop-item : goal.decreases-loop-item
decreases-loop-item l = length l.text - l.at
