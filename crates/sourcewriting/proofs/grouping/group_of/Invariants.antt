-- What the loop of `group_of` keeps.
use Rattle.sourcewriting.specs.Grouping.{IsGroupOf}
use Rattle.sourcewriting.proofs.grouping.group_of.Given as goal

-- a list so far
abbrev pub invariant-loop-variable : goal.invariant-loop-variable
invariant-loop-variable l = IsGroupOf l.pairs l.fn.one l.fn.other l.group.items
