use Rattle.std.proofs.Common.{◌≡◌, take}
use Rattle.std.specs.Vec.{vec_capacity}
use Rattle.tlwords.specs.Entries.{picked}
use Rattle.tlwords.proofs.slots.pick.Given as goal

abbrev pub invariant-loop-i : goal.invariant-loop-i
invariant-loop-i l = (l.plan.items ≡ picked l.kept (take l.i l.entries)) × (vec_capacity l.plan ≡ vec_capacity l.initial.plan)
