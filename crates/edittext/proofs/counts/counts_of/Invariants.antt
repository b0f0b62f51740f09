-- What the loop of `counts_of` keeps: those of the scripts so far.
use Rattle.std.proofs.Common.{◌≡◌, take}
use Rattle.transaction.specs.Closings.{lists_of}
use Rattle.edittext.specs.Counts.{all_of, counted}
use Rattle.edittext.proofs.counts.counts_of.Given as goal

abbrev pub invariant-loop-row : goal.invariant-loop-row
invariant-loop-row l = l.counts ≡ counted (all_of (lists_of (take l.row-index l.rows)))
