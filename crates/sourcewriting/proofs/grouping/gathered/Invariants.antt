-- What the loop of `gathered` keeps.
use Rattle.sourcewriting.specs.Groups.{seen_groups}
use Rattle.sourcewriting.proofs.Groups.{AreGroupedTo}
use Rattle.sourcewriting.proofs.grouping.gathered.Given as goal

-- the pairs so far are in lists
abbrev pub invariant-loop-one : goal.invariant-loop-one
invariant-loop-one l = AreGroupedTo l.pairs l.one-index (seen_groups l.groups.items)
