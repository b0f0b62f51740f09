-- What the loop of `put_path` keeps.
use Rattle.std.proofs.Common.{◌≡◌, ◌++◌, take}
use Rattle.taketext.specs.Comments.{shown_path}
use Rattle.taketext.proofs.comment.put_path.Given as goal

abbrev pub invariant-loop-byte : goal.invariant-loop-byte
invariant-loop-byte l = l.out.items ≡ l.fn.out.items ++ shown_path (take l.byte-index l.path)
