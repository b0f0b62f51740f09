-- What the loop of `put_set_in` keeps.
use Rattle.std.proofs.Common.{◌≡◌, ◌++◌, true, drop}
use Rattle.historytext.specs.Layout.{set_in}
use Rattle.historytext.proofs.replies.put_set_in.Given as goal

abbrev pub invariant-loop-byte : goal.invariant-loop-byte
invariant-loop-byte l = l.out.items ++ set_in l.begins (drop l.byte-index l.lines) ≡ l.fn.out.items ++ set_in true l.lines
