-- What the loop of `others` keeps: the entries so far.
use Rattle.std.proofs.Common.{◌≡◌, take}
use Rattle.standins.specs.Ending.{withdrawn}
use Rattle.standins.proofs.withdrawing.others.Given as goal

abbrev pub invariant-loop-entry : goal.invariant-loop-entry
invariant-loop-entry l = l.made.items ≡ withdrawn l.axioms (take l.entry-index l.entries)
