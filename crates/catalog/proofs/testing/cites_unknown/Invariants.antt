use Rattle.std.proofs.Common.{◌≡◌, false, take}
use Rattle.std.specs.List.{list_any}
use Rattle.library.specs.Edits.{is_of_unknown}
use Rattle.catalog.specs.Entries.{living}
use Rattle.catalog.proofs.testing.cites_unknown.Given as goal

abbrev pub invariant-loop-i : goal.invariant-loop-i
invariant-loop-i l = list_any (is_of_unknown (living l.entries)) (take l.i l.steps) ≡ false
