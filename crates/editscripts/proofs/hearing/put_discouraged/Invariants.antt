-- What the loop of `put_discouraged` keeps: what is discouraged of the commands so far.
use Rattle.std.proofs.Common.{◌≡◌, ◌++◌, map, take}
use Rattle.expanding.specs.Views.{seen_found}
use Rattle.editscripts.specs.Faults.{counted_fault}
use Rattle.editscripts.specs.Views.{seen_fault}
use Rattle.editscripts.proofs.hearing.put_discouraged.Given as goal

abbrev pub invariant-loop-script : goal.invariant-loop-script
invariant-loop-script g l =
    map seen_fault l.faults.items
    ≡ map seen_fault l.initial.faults.items ++ map counted_fault (map seen_found (take l.script-index l.script-items))
