-- What the loop of `is_said_between` keeps.
use Rattle.std.proofs.Common.{◌-◌, ◌≤◌, false, length}
use Rattle.std.specs.Prelude.{IsTrue}
use Rattle.source.specs.Scopes.{is_in}
use Rattle.items.specs.Items.{Item, words, outside}
use Rattle.items.specs.Reading.{Stands}
use Rattle.arranging.proofs.sections.is_said_between.Given as goal

-- what is left to say is some of what was said there
abbrev pub invariant-loop-token : goal.invariant-loop-token
invariant-loop-token l = record {
  within : l.at ≤ length l.text;
  left :
      (x : Item) → Stands l.text l.from x l.end
      → (y : Item) × Stands l.text l.at y l.end
      × (IsTrue (is_in (outside false (words y)) l.word) → IsTrue (is_in (outside false (words x)) l.word));
}

abbrev pub decreases-loop-token : goal.decreases-loop-token
decreases-loop-token l = length l.text - l.at
