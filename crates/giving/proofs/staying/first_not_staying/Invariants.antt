-- What the loop of `first_not_staying` keeps.
use Rattle.std.proofs.Common.{take}
use Rattle.giving.specs.Staying.{StayAll, others}
use Rattle.giving.proofs.staying.first_not_staying.Given as goal

-- those so far stay
abbrev pub invariant-loop-number : goal.invariant-loop-number
invariant-loop-number g l =
    StayAll l.changes (take l.number (others l.chosen (g.D.Declared.scope l.old).assertions))
    (take l.number (others l.taken (g.E.Declared.scope l.new).assertions))
