use Rattle.std.proofs.Common.{◌≡◌, false, take}
use Rattle.std.specs.List.{list_any}
use Rattle.library.specs.Edits.{cites_not_below}
use Rattle.catalog.specs.Entries.{living}
use Rattle.catalog.proofs.testing.cites_not_below.Given as goal

abbrev pub invariant-loop-i : goal.invariant-loop-i
invariant-loop-i l = list_any (cites_not_below (living l.entries) l.rank) (take l.i l.steps) ≡ false
