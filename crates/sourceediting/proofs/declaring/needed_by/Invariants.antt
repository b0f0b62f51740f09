-- What the loop of `needed_by` keeps.
use Rattle.std.proofs.Common.{◌-◌, ◌≤◌, length}
use Rattle.sourceediting.proofs.declaring.needed_by.Given as goal

-- a place of the text
abbrev pub invariant-loop-token : goal.invariant-loop-token
invariant-loop-token l = l.at ≤ length l.text

abbrev pub decreases-loop-token : goal.decreases-loop-token
decreases-loop-token l = length l.text - l.at
