-- What the loop of `are_equal` keeps.
use Rattle.std.proofs.Common.{◌≡◌, take}
use Rattle.comments.specs.Walks.{seen_texts}
use Rattle.comments.proofs.keeping.are_equal.Given as goal

-- the texts so far are equal
abbrev pub invariant-loop-i : goal.invariant-loop-i
invariant-loop-i l = seen_texts (take l.i l.ones) ≡ seen_texts (take l.i l.others)
