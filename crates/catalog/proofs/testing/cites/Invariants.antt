use Rattle.std.proofs.Common.{◌≡◌, false, take}
use Rattle.std.specs.List.{list_any}
use Rattle.library.specs.Edits.{is_citation}
use Rattle.catalog.proofs.testing.cites.Given as goal

abbrev pub invariant-loop-i : goal.invariant-loop-i
invariant-loop-i l = list_any (is_citation l.label) (take l.i l.steps) ≡ false
