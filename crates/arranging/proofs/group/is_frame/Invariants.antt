-- What the loop of `is_frame` keeps.
use Rattle.std.proofs.Common.{◌-◌, ◌≤◌, List, length}
use Rattle.items.specs.Items.{Item}
use Rattle.arranging.specs.Lines.{AreInLines}
use Rattle.arranging.specs.Written.{AreBetween, AllGive}
use Rattle.arranging.proofs.group.is_frame.Given as goal

-- the items so far give the frame
abbrev pub invariant-loop-item : goal.invariant-loop-item
invariant-loop-item l = record {
  within : l.at ≤ length l.text;
  frame : (xs : List Item) × AreBetween l.text l.from xs l.at × AllGive xs × AreInLines xs;
}

abbrev pub decreases-loop-item : goal.decreases-loop-item
decreases-loop-item l = length l.text - l.at
