-- What the loop of `aparts_to` keeps: those up to the number, and what is put together so far in turned order.
use Rattle.std.proofs.Common.{◌≡◌, ◌++◌, map, reverse}
use Rattle.scopes.specs.Paths.{path, count_to}
use Rattle.scopes.specs.Views.{set_apart, seen_aparts}
use Rattle.scopes.proofs.chains.aparts_to.Given as goal

abbrev pub invariant-loop-others : goal.invariant-loop-others
invariant-loop-others l =
    path (map set_apart l.aparts) l.fn.last ≡ path (map set_apart l.aparts) l.number ++ seen_aparts (reverse l.variables.items)

abbrev pub decreases-loop-others : goal.decreases-loop-others
decreases-loop-others l = count_to l.number
