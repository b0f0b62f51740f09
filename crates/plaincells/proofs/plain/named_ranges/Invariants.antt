use Rattle.plaincells.specs.Plain.{AreNamedBy}
use Rattle.plaincells.proofs.plain.named_ranges.Given as goal

abbrev pub invariant-loop-cell : goal.invariant-loop-cell
invariant-loop-cell l = AreNamedBy l.slots l.values l.cell l.ranges.items
