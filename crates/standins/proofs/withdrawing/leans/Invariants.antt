-- What the loop of `leans` keeps: no step so far cites one.
use Rattle.std.proofs.Common.{◌≡◌, false, take}
use Rattle.std.specs.List.{list_any}
use Rattle.standins.specs.Ending.{cites_one}
use Rattle.standins.proofs.withdrawing.leans.Given as goal

abbrev pub invariant-loop-i : goal.invariant-loop-i
invariant-loop-i l = list_any (cites_one l.axioms) (take l.i l.proof) ≡ false
