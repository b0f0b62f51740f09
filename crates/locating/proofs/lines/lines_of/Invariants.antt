-- What the loop of `lines_of` keeps: the line of the byte that it has come to, and the lines so far.
use Rattle.std.proofs.Common.{◌≡◌, ◌≤◌, map, take, length}
use Rattle.locating.specs.Lines.{line_at}
use Rattle.locating.proofs.lines.lines_of.Given as goal

abbrev pub invariant-loop-place : goal.invariant-loop-place
invariant-loop-place l = record {
  within : l.at ≤ length l.text;
  known : l.line ≡ line_at l.text l.at;
  lines : l.lines.items ≡ map (λ place. line_at l.text place) (take l.place-index l.places);
}
