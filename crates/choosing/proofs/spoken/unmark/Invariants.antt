-- What the loop of `unmark` keeps: the others so far are taken out.
use Rattle.std.proofs.Common.{◌≡◌, take}
use Rattle.choosing.proofs.Speaking.{left_out}
use Rattle.choosing.proofs.spoken.unmark.Given as goal

abbrev pub invariant-loop-place : goal.invariant-loop-place
invariant-loop-place l = l.marks ≡ left_out l.fn.marks (take l.place l.others)
