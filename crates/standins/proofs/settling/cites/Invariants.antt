-- What the loop of `cites` keeps: no step so far cites the label.
use Rattle.std.proofs.Common.{◌≡◌, false, take}
use Rattle.std.specs.List.{list_any}
use Rattle.library.specs.Edits.{is_citation}
use Rattle.standins.proofs.settling.cites.Given as goal

abbrev pub invariant-loop-i : goal.invariant-loop-i
invariant-loop-i l = list_any (is_citation l.label) (take l.i l.proof) ≡ false
