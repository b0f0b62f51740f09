-- What the loop of `are_pairs` keeps.
use Rattle.std.proofs.Common.{◌≡◌, ◌↔◌, drop}
use Rattle.source.specs.Views.{seen_pairs}
use Rattle.giving.proofs.alike.are_pairs.Given as goal

-- what is left is equal where all are
abbrev pub invariant-loop-i : goal.invariant-loop-i
invariant-loop-i l = (seen_pairs (drop l.i l.ones) ≡ seen_pairs (drop l.i l.others)) ↔ (seen_pairs l.ones ≡ seen_pairs l.others)
