-- What the loop of `changes` keeps.
use Rattle.std.proofs.Common.{◌≡◌, take}
use Rattle.std.specs.Prelude.{filter_map}
use Rattle.source.specs.Views.{seen_pairs}
use Rattle.sourceediting.specs.Following.{change_of}
use Rattle.sourceediting.specs.Views.{seen_living}
use Rattle.sourceediting.proofs.following.Following.changes.Given as goal

-- the changes so far
abbrev pub invariant-loop-followed : goal.invariant-loop-followed
invariant-loop-followed l =
    seen_pairs l.changes.items ≡ filter_map (λ x. change_of x x.source) (seen_living (take l.followed-index l.followed-items))
