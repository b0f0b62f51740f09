-- What the loop of `are_within` keeps.
use Rattle.std.proofs.Common.{All, Contains, drop, ◌↔◌}
use Rattle.library.proofs.alike.are_within.Given as goal

-- those that are left are among the others where all are
abbrev pub invariant-loop-pair : goal.invariant-loop-pair
invariant-loop-pair l = All (Contains l.others) (drop l.pair-index l.pairs) ↔ All (Contains l.others) l.pairs
