-- What the loop of `pairs` keeps.
use Rattle.std.proofs.Common.{◌≡◌, take}
use Rattle.std.specs.List.{flat_map}
use Rattle.source.specs.Scopes.{pairs_of}
use Rattle.source.specs.Views.{seen_pairs}
use Rattle.scopes.specs.Views.{seen_aparts}
use Rattle.scopes.proofs.shown.pairs.Given as goal

abbrev pub invariant-loop-variables : goal.invariant-loop-variables
invariant-loop-variables l = seen_pairs l.pairs.items ≡ flat_map pairs_of (seen_aparts (take l.variables-index l.variables-items))
