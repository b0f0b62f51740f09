use Rattle.tlwords.proofs.Entries.{DroppedTo}
use Rattle.tlwords.proofs.slots.drop_values.Given as goal

abbrev pub invariant-loop-i : goal.invariant-loop-i
invariant-loop-i l = DroppedTo l.initial.entries l.entries l.i
