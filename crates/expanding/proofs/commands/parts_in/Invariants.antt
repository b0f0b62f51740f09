-- What the loop of `parts_in` keeps: parts of the words that are left are the last of all.
use Rattle.std.proofs.Common.{◌≤◌, ◌-◌, ◌++◌, List, map, length, drop}
use Rattle.mmtext.specs.Views.{seen}
use Rattle.spreading.specs.Forms.{Part, AreParts}
use Rattle.expanding.specs.Bars.{seen_part}
use Rattle.expanding.proofs.commands.parts_in.Given as goal

abbrev pub invariant-loop-at : goal.invariant-loop-at
invariant-loop-at l = record {
  within : l.at ≤ length l.words;
  cut : (ps : List Part) → AreParts (map seen (drop l.at l.words)) ps
      → AreParts (map seen l.words) (map seen_part l.parts.items ++ ps);
}

abbrev pub decreases-loop-at : goal.decreases-loop-at
decreases-loop-at l = length l.words - l.at
