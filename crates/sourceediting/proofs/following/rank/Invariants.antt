-- What the loop of `rank` keeps.
use Rattle.std.proofs.Common.{◌≡◌, ◌++◌, map, take, drop}
use Rattle.sourceediting.specs.Following.{ranked}
use Rattle.sourceediting.specs.Views.{seen_living}
use Rattle.sourceediting.proofs.following.rank.Given as goal

-- the assertions so far are behind the move
abbrev pub invariant-loop-followed : goal.invariant-loop-followed
invariant-loop-followed l =
    seen_living l.living
    ≡ map (ranked l.label) (take l.followed-index (seen_living l.fn.living)) ++ drop l.followed-index (seen_living l.fn.living)
