-- What the loop of `end_of_comment` keeps.
use Rattle.std.proofs.Common.{◌≡◌, ◌-◌, ◌≤◌, List, true, false, length, codes}
use Rattle.std.specs.List.{list_any}
use Rattle.std.specs.Str.{bytes_eq}
use Rattle.mmtext.specs.Words.{Word}
use Rattle.items.specs.Divided.{AreOutside}
use Rattle.items.specs.Items.{Item, words}
use Rattle.items.specs.Reading.{Stands}
use Rattle.items.proofs.reading.end_of_comment.Given as goal

-- words of the comment were passed over
abbrev pub invariant-loop-token : goal.invariant-loop-token
invariant-loop-token l = record {
  within : l.at ≤ length l.text;
  so_far : l.from ≤ l.at;
  passed : (left : Item) × Stands l.text l.from left l.at × (list_any (λ w. bytes_eq w (codes "$)")) (words left) ≡ false);
  outside : (ws : List Word) → AreOutside true l.text l.from ws → AreOutside true l.text l.at ws;
}

abbrev pub decreases-loop-token : goal.decreases-loop-token
decreases-loop-token l = length l.text - l.at
