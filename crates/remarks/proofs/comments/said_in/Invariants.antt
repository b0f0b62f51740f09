-- What the loop of `said_in` keeps: what the words so far say, and those that are left.
use Rattle.std.proofs.Common.{◌≤◌, ◌-◌, length}
use Rattle.items.specs.Items.{Item}
use Rattle.items.specs.Reading.{Stands}
use Rattle.remarks.proofs.Heard.{IsHeard}
use Rattle.remarks.proofs.comments.said_in.Given as goal

abbrev pub invariant-loop-at : goal.invariant-loop-at
invariant-loop-at l = record {
  within : l.at ≤ length l.text;
  heard : (x : Item) → Stands l.text l.from x l.item.end → IsHeard l.text l.at l.item.end x l.window l.remark;
}

abbrev pub decreases-loop-at : goal.decreases-loop-at
decreases-loop-at l = length l.text - l.at
