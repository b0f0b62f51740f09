-- What the loop of `encode_label` keeps.
use Rattle.std.proofs.Common.{◌≡◌, take}
use Rattle.bodystore.proofs.encode.encode_label.Given as goal

abbrev pub invariant-loop-byte : goal.invariant-loop-byte
invariant-loop-byte l = l.words.items ≡ take l.byte-index l.label
