use Rattle.std.proofs.Common.{◌≡◌, ◌++◌, map, take, drop}
use Rattle.replacements.specs.Replacing.{recited_step}
use Rattle.replacements.proofs.replacing.recite.Given as goal

abbrev pub invariant-loop-i : goal.invariant-loop-i
invariant-loop-i l =
    l.steps ≡ map (recited_step l.slots l.old l.new) (take l.i l.initial.steps) ++ drop l.i l.initial.steps
