-- What the loop of `note` keeps.
use Rattle.std.proofs.Common.{◌-◌, ◌≤◌, length}
use Rattle.sourceediting.proofs.declaring.note.Given as goal

-- a place of the statement
abbrev pub invariant-loop-token : goal.invariant-loop-token
invariant-loop-token l = l.at ≤ length l.statement

abbrev pub decreases-loop-token : goal.decreases-loop-token
decreases-loop-token l = length l.statement - l.at
