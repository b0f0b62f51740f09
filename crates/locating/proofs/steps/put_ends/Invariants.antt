-- What the loop of `put_ends` keeps: the ends in the bytes so far.
use Rattle.std.proofs.Common.{◌≡◌, ◌++◌, take}
use Rattle.locating.specs.Steps.{ends_from}
use Rattle.locating.proofs.steps.put_ends.Given as goal

abbrev pub invariant-loop-at : goal.invariant-loop-at
invariant-loop-at l = l.ends.items ≡ l.initial.ends.items ++ ends_from l.token.place 0 (take l.at l.byte-items)
