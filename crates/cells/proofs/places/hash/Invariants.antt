use Rattle.std.proofs.Common.{◌≡◌, ◌<◌, take}
use Rattle.cells.specs.Slots.{hash}
use Rattle.cells.proofs.places.hash.Given as goal

abbrev pub invariant-loop-byte : goal.invariant-loop-byte
invariant-loop-byte l = (l.hash < l.slots) × (l.hash ≡ hash l.slots (take l.byte-index l.word))
