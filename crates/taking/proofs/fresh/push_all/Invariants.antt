-- What the loop of `push_all` keeps: the bytes so far stand at the end.
use Rattle.std.proofs.Common.{◌≡◌, ◌++◌, take}
use Rattle.taking.proofs.fresh.push_all.Given as goal

abbrev pub invariant-loop-byte : goal.invariant-loop-byte
invariant-loop-byte l = l.name ≡ l.initial.name ++ take l.byte-index l.bytes
