-- What the loop of `hypotheses_to` keeps: those up to the number, and what is put together so far in turned order.
use Rattle.std.proofs.Common.{◌≡◌, ◌++◌, map, reverse}
use Rattle.source.specs.Views.{seen_hypotheses}
use Rattle.scopes.specs.Paths.{path, count_to}
use Rattle.scopes.specs.Views.{linked}
use Rattle.scopes.proofs.chains.hypotheses_to.Given as goal

abbrev pub invariant-loop-hypothesis : goal.invariant-loop-hypothesis
invariant-loop-hypothesis l =
    path (map linked l.links) l.fn.last ≡ path (map linked l.links) l.number ++ seen_hypotheses (reverse l.hypotheses.items)

abbrev pub decreases-loop-hypothesis : goal.decreases-loop-hypothesis
decreases-loop-hypothesis l = count_to l.number
