-- What the loop of `constant_words` keeps.
use Rattle.std.proofs.Common.{◌≡◌, map, take}
use Rattle.source.specs.Views.{seen_words}
use Rattle.giving.specs.Staying.{changed}
use Rattle.sourcewriting.proofs.adding.constant_words.Given as goal

-- the words of those that were gone through
abbrev pub invariant-loop-name : goal.invariant-loop-name
invariant-loop-name l = seen_words l.words.items ≡ map (changed l.changes) (take l.name-index l.constants)
