-- What the loop of `copied_labels` keeps.
use Rattle.std.proofs.Common.{◌≡◌, take}
use Rattle.intake.proofs.drafting.copied_labels.Given as goal

abbrev pub invariant-loop-name : goal.invariant-loop-name
invariant-loop-name l = l.copies.items ≡ take l.name-index l.names
