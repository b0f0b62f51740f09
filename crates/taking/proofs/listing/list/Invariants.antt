-- What the loop of `list` keeps: what is pending, before the steps so far in turned order, lists the root; what is pending weighs less
-- each turn.
use Rattle.taking.proofs.Listed.{Goes, weight}
use Rattle.taking.proofs.Lent.{seen_steps}
use Rattle.taking.proofs.listing.list.Given as goal

abbrev pub invariant-loop-place : goal.invariant-loop-place
invariant-loop-place l = Goes l.named l.nodes l.root l.pending.items (seen_steps l.steps.items)

abbrev pub decreases-loop-place : goal.decreases-loop-place
decreases-loop-place l = weight l.nodes l.pending.items
