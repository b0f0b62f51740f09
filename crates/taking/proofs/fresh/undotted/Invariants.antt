-- What the loop of `undotted` keeps: the bytes so far.
use Rattle.std.proofs.Common.{◌≡◌, take}
use Rattle.taking.specs.Fresh.{undotted}
use Rattle.taking.proofs.fresh.undotted.Given as goal

abbrev pub invariant-loop-byte : goal.invariant-loop-byte
invariant-loop-byte l = l.name ≡ undotted (take l.byte-index l.word)
