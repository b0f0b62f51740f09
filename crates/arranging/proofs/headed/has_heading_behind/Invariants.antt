-- What the loop of `has_heading_behind` keeps.
use Rattle.std.proofs.Common.{ℕ, ◌<◌}
use Rattle.arranging.specs.Headed.{IsOpenAt}
use Rattle.arranging.proofs.headed.has_heading_behind.Given as goal

-- a block is open in front of each so far
abbrev pub invariant-loop-at : goal.invariant-loop-at
invariant-loop-at l = (k : ℕ) → l.place < k → k < l.at → IsOpenAt l.parts k
