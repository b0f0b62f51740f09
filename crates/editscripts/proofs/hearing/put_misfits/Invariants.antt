-- What the loop of `put_misfits` keeps: the misfits so far.
use Rattle.std.proofs.Common.{◌≡◌, ◌++◌, map, take}
use Rattle.spreading.specs.Views.{seen_misfit}
use Rattle.editscripts.specs.Faults.{fault_in, unfit}
use Rattle.editscripts.specs.Views.{seen_fault}
use Rattle.editscripts.proofs.hearing.put_misfits.Given as goal

abbrev pub invariant-loop-misfit : goal.invariant-loop-misfit
invariant-loop-misfit l =
    map seen_fault l.faults.items
    ≡ map seen_fault l.initial.faults.items
    ++ map (λ m. fault_in l.script (unfit m)) (map seen_misfit (take l.misfit-index l.misfits))
