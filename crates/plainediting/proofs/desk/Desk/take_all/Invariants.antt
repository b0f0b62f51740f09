use Rattle.std.proofs.Common.{take}
use Rattle.plainediting.specs.Desks.{DoesAll}
use Rattle.plainediting.proofs.desk.Desk.take_all.Given as goal

abbrev pub invariant-loop-commands : goal.invariant-loop-commands
invariant-loop-commands l = DoesAll l.fn.self (take l.commands-index l.transactions) l.outcomes.items l.self
