-- What the loop of `put_digits` keeps.
use Rattle.std.proofs.Common.{◌≡◌, ◌++◌, take}
use Rattle.std.specs.List.{flat_map}
use Rattle.taketext.specs.Comments.{digits}
use Rattle.taketext.proofs.comment.put_digits.Given as goal

abbrev pub invariant-loop-byte : goal.invariant-loop-byte
invariant-loop-byte l = l.out.items ≡ l.fn.out.items ++ flat_map digits (take l.byte-index l.bytes)
