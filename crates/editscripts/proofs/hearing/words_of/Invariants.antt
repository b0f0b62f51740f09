-- What the loop of `words_of` keeps: the words of the texts so far, and the faults of these.
use Rattle.std.proofs.Common.{map, take}
use Rattle.expanding.specs.Views.{seen_scripts}
use Rattle.editscripts.specs.Gathered.{AreRead}
use Rattle.editscripts.specs.Views.{seen_fault, seen_texts}
use Rattle.editscripts.proofs.hearing.words_of.Given as goal

abbrev pub invariant-loop-script : goal.invariant-loop-script
invariant-loop-script l =
    AreRead (take l.script (seen_texts l.texts)) (map seen_fault l.initial.faults.items) (map seen_fault l.faults.items)
    (seen_scripts l.scripts.items)
