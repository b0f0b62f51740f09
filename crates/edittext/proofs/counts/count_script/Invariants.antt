-- What the loop of `count_script` keeps: those of the transactions so far.
use Rattle.std.proofs.Common.{◌≡◌, ◌++◌, List, take}
use Rattle.transaction.specs.declared.outcome.Outcome.{Outcome}
use Rattle.edittext.specs.Counts.{counted}
use Rattle.edittext.proofs.counts.count_script.Given as goal

abbrev pub invariant-loop-outcome : goal.invariant-loop-outcome
invariant-loop-outcome l =
    (before : List Outcome) → l.initial.counts ≡ counted before → l.counts ≡ counted (before ++ take l.outcome-index l.outcomes)
