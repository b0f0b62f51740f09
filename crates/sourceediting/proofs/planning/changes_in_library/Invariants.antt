-- What the loop of `changes_in_library` keeps.
use Rattle.std.proofs.Common.{◌≡◌, take}
use Rattle.source.specs.Views.{seen_pairs}
use Rattle.sourceediting.specs.Views.{seen_living}
use Rattle.sourceediting.specs.Reproved.{changes_in_library}
use Rattle.sourceediting.proofs.planning.changes_in_library.Given as goal

-- the labels of those that were gone through
abbrev pub invariant-loop-followed : goal.invariant-loop-followed
invariant-loop-followed l = seen_pairs l.pairs.items ≡ changes_in_library (seen_living (take l.followed-index l.living))
