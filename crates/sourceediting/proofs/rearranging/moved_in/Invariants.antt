-- What the loop of `moved_in` keeps.
use Rattle.std.proofs.Common.{◌≡◌, take}
use Rattle.source.specs.Views.{seen_words}
use Rattle.sourceediting.specs.Views.{seen_living}
use Rattle.sourceediting.specs.Written.{moved_in}
use Rattle.sourceediting.proofs.rearranging.moved_in.Given as goal

-- those that were gone through
abbrev pub invariant-loop-followed : goal.invariant-loop-followed
invariant-loop-followed l = seen_words l.moved.items ≡ moved_in (seen_living (take l.followed-index l.living))
