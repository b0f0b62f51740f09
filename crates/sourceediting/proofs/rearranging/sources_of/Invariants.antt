-- What the loop of `sources_of` keeps.
use Rattle.std.proofs.Common.{◌≡◌, take}
use Rattle.source.specs.Views.{seen_words}
use Rattle.sourceediting.specs.Views.{seen_living}
use Rattle.sourceediting.specs.Written.{sources_of}
use Rattle.sourceediting.proofs.rearranging.sources_of.Given as goal

-- those that were gone through
abbrev pub invariant-loop-followed : goal.invariant-loop-followed
invariant-loop-followed l = seen_words l.sources.items ≡ sources_of (seen_living (take l.followed-index l.living))
