-- What the loop of `has_heading_in_front` keeps.
use Rattle.std.proofs.Common.{ℕ, ◌<◌, ◌≤◌}
use Rattle.arranging.specs.Headed.{IsOpenAt}
use Rattle.arranging.proofs.headed.has_heading_in_front.Given as goal

-- a block is open in front of each from here on
abbrev pub invariant-loop-at : goal.invariant-loop-at
invariant-loop-at l = record {
  within : l.at ≤ l.place;
  inside : (k : ℕ) → l.at < k → k ≤ l.place → IsOpenAt l.parts k;
}

abbrev pub decreases-loop-at : goal.decreases-loop-at
decreases-loop-at l = l.at
