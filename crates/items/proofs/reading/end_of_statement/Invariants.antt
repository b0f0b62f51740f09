-- What the loop of `end_of_statement` keeps.
use Rattle.std.proofs.Common.{◌-◌, ◌≤◌, true, length}
use Rattle.items.specs.Divided.{IsDividedFrom}
use Rattle.items.proofs.Passed.{IsBegun}
use Rattle.items.proofs.reading.end_of_statement.Given as goal

-- words of the statement were passed over, of which the last stands outside of comments
abbrev pub invariant-loop-token : goal.invariant-loop-token
invariant-loop-token l = record {
  within : l.at ≤ length l.text;
  so_far : l.from ≤ l.at;
  passed : IsBegun l.text l.from l.at l.first;
  divided : IsDividedFrom true l.text l.from → IsDividedFrom true l.text l.at;
}

abbrev pub decreases-loop-token : goal.decreases-loop-token
decreases-loop-token l = length l.text - l.at
