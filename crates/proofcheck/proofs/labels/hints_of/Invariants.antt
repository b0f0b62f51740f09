use Rattle.std.proofs.Common.{All}
use Rattle.proofcheck.specs.Reports.{IsHint}
use Rattle.proofcheck.proofs.labels.hints_of.Given as goal

abbrev pub invariant-loop-i : goal.invariant-loop-i
invariant-loop-i l = All (IsHint l.assertions) l.hints.items
