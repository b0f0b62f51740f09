use Rattle.tlwords.proofs.Entries.{WipedTo}
use Rattle.tlwords.proofs.slots.wipe.Given as goal

abbrev pub invariant-loop-i : goal.invariant-loop-i
invariant-loop-i l = WipedTo l.initial.places l.entries l.places l.i
