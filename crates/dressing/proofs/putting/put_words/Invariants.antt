-- What the loop of `put_words` keeps.
use Rattle.std.proofs.Common.{◌≡◌, ◌-◌, ◌≤◌, ◌++◌, false, length}
use Rattle.std.specs.Option.{option_map}
use Rattle.items.specs.Items.{Item}
use Rattle.items.specs.Reading.{Stands}
use Rattle.dressing.specs.Described.{with_comment}
use Rattle.dressing.specs.Putting.{put_from}
use Rattle.dressing.proofs.putting.put_words.Given as goal

-- what is left of the item is put as it is from the place that was reached
abbrev pub invariant-loop-at : goal.invariant-loop-at
invariant-loop-at l = record {
  within : l.at ≤ length l.text;
  inside : l.end ≤ length l.text;
  put : (x : Item) → Stands l.text l.from x l.end
      → (left : Item) × Stands l.text l.at left l.end
      × (l.initial.out.items ++ put_from l.labels (option_map (λ p. p.now) l.attire.proof) false
      (with_comment (option_map (λ c. c.now) l.attire.comment) x)
      ≡ l.out.items ++ put_from l.labels (option_map (λ p. p.now) l.attire.proof) l.is_open
      (with_comment (option_map (λ c. c.now) l.comment) left));
}

abbrev pub decreases-loop-at : goal.decreases-loop-at
decreases-loop-at l = l.end - l.at
