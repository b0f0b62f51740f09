-- What the loop of `put_lines` keeps.
use Rattle.std.proofs.Common.{◌≡◌, ◌++◌, take}
use Rattle.std.specs.List.{flat_map}
use Rattle.historytext.specs.Layout.{line_text}
use Rattle.historytext.proofs.replies.put_lines.Given as goal

abbrev pub invariant-loop-line : goal.invariant-loop-line
invariant-loop-line l = l.out.items ≡ l.fn.out.items ++ flat_map line_text (take l.line-index l.lines)
