-- What the loop of `are_same` keeps.
use Rattle.std.proofs.Common.{◌≡◌, ◌↔◌, drop}
use Rattle.library.proofs.alike.are_same.Given as goal

-- what is left is equal where all are
abbrev pub invariant-loop-i : goal.invariant-loop-i
invariant-loop-i l = (drop l.i l.ones ≡ drop l.i l.others) ↔ (l.ones ≡ l.others)
