-- What the loop of `rename` keeps.
use Rattle.std.proofs.Common.{◌≡◌, ◌++◌, map, take, drop}
use Rattle.sourceediting.specs.Following.{renamed}
use Rattle.sourceediting.specs.Views.{seen_living}
use Rattle.sourceediting.proofs.following.rename.Given as goal

-- the assertions so far are behind the rename
abbrev pub invariant-loop-followed : goal.invariant-loop-followed
invariant-loop-followed l =
    seen_living l.living
    ≡ map (renamed l.old l.new) (take l.followed-index (seen_living l.fn.living)) ++ drop l.followed-index (seen_living l.fn.living)
