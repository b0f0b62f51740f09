use Rattle.std.proofs.Common.{take}
use Rattle.catalog.specs.Listing.{AreNoted}
use Rattle.catalog.proofs.listing.note_proof.Given as goal

abbrev pub invariant-loop-i : goal.invariant-loop-i
invariant-loop-i l = AreNoted l.entries l.number (take l.i l.steps) l.initial.counts l.counts l.stamps
