-- What the loop of `is_cited` keeps: no entry so far cites the label.
use Rattle.std.proofs.Common.{◌≡◌, false, take}
use Rattle.std.specs.List.{list_any}
use Rattle.library.specs.Edits.{cites}
use Rattle.standins.proofs.settling.is_cited.Given as goal

abbrev pub invariant-loop-entry : goal.invariant-loop-entry
invariant-loop-entry l = list_any (cites l.label) (take l.entry-index l.entries) ≡ false
