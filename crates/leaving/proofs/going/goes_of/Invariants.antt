-- What the loop of `goes_of` keeps.
use Rattle.std.proofs.Common.{◌≡◌, ◌++◌, Bool, List, [], take, drop}
use Rattle.leaving.specs.Leaving.{AreGoing, open_behind}
use Rattle.leaving.proofs.Reaching.{Reaches, IsAnyLeft, IsCommentedLeft}
use Rattle.leaving.proofs.going.goes_of.Given as goal

-- flags for the rest make flags for the whole
abbrev pub invariant-loop-k : goal.invariant-loop-k
invariant-loop-k l = record {
  depth : l.reach.depth ≡ open_behind 0 (take l.k l.parts);
  any : Reaches IsAnyLeft l.parts l.k l.reach.any;
  commented : Reaches IsCommentedLeft l.parts l.k l.reach.commented;
  going : (gs : List Bool) → AreGoing (take l.k l.parts) (drop l.k l.parts) gs → AreGoing [] l.parts (l.goes.items ++ gs);
}
