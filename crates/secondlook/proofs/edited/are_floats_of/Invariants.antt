-- What the loop of `are_floats_of` keeps.
use Rattle.std.proofs.Common.{take}
use Rattle.std.specs.Prelude.{All}
use Rattle.secondlook.specs.Again.{IsFloatOf}
use Rattle.secondlook.proofs.edited.are_floats_of.Given as goal

-- so far each is
abbrev pub invariant-loop-float : goal.invariant-loop-float
invariant-loop-float l = All (IsFloatOf l.prelude l.fn.other) (take l.float-index l.float-items)
