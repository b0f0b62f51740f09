use Rattle.std.proofs.Common.{◌≡◌, take}
use Rattle.library.proofs.command.copy_lines.Given as goal

abbrev pub invariant-loop-line : goal.invariant-loop-line
invariant-loop-line l = l.made.items ≡ take l.line-index l.lines
