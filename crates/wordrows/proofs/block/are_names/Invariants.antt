-- The values so far are names.
use Rattle.std.proofs.Common.{take}
use Rattle.std.specs.Prelude.{All}
use Rattle.wordrows.specs.Seats.{IsNameIn}
use Rattle.wordrows.proofs.block.are_names.Given as goal

abbrev pub invariant-loop-value : goal.invariant-loop-value
invariant-loop-value l = All (IsNameIn l.words) (take l.value-index l.values)
