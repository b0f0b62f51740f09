-- What the loop of `spread_all` keeps: the words of the scripts so far, by the source, and what doesn't fit in these.
use Rattle.std.proofs.Common.{map, take}
use Rattle.expanding.specs.Views.{seen_scripts}
use Rattle.editscripts.specs.Gathered.{AreSpreadOut}
use Rattle.editscripts.specs.Views.{seen_fault}
use Rattle.editscripts.proofs.hearing.spread_all.Given as goal

abbrev pub invariant-loop-script : goal.invariant-loop-script
invariant-loop-script g l =
    AreSpreadOut (g.D.Declared.scope l.declared) (take l.script (seen_scripts l.scripts)) (map seen_fault l.initial.faults.items)
    (map seen_fault l.faults.items)
    (seen_scripts l.outs.items)
