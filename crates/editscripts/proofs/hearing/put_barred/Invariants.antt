-- What the loop of `put_barred` keeps: what is forbidden of the commands so far.
use Rattle.std.proofs.Common.{◌≡◌, ◌++◌, map, take}
use Rattle.expanding.specs.Watches.{seen_barred}
use Rattle.editscripts.specs.Faults.{barred_fault}
use Rattle.editscripts.specs.Views.{seen_fault}
use Rattle.editscripts.proofs.hearing.put_barred.Given as goal

abbrev pub invariant-loop-barred : goal.invariant-loop-barred
invariant-loop-barred g l =
    map seen_fault l.faults.items
    ≡ map seen_fault l.initial.faults.items ++ map barred_fault (map seen_barred (take l.barred-index l.barred-items))
