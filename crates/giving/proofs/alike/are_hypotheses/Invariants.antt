-- What the loop of `are_hypotheses` keeps.
use Rattle.std.proofs.Common.{◌≡◌, ◌↔◌, length}
use Rattle.source.specs.Views.{seen_hypotheses}
use Rattle.giving.proofs.alike.are_hypotheses.Given as goal

-- what is left is equal where all are
abbrev pub invariant-loop-one : goal.invariant-loop-one
invariant-loop-one l =
    (seen_hypotheses l.ones.items ≡ seen_hypotheses l.others.items)
    ↔ (seen_hypotheses l.initial.ones.items ≡ seen_hypotheses l.initial.others.items)

abbrev pub decreases-loop-one : goal.decreases-loop-one
decreases-loop-one l = length l.ones.items
