-- What the loop of `descriptions_of` keeps: the descriptions in the scripts so far.
use Rattle.std.proofs.Common.{take}
use Rattle.expanding.specs.Views.{seen_scripts}
use Rattle.editscripts.specs.Described.{AreDescriptive}
use Rattle.editscripts.specs.Views.{seen_texts, seen_descriptions}
use Rattle.editscripts.proofs.described.descriptions_of.Given as goal

abbrev pub invariant-loop-place : goal.invariant-loop-place
invariant-loop-place l =
    AreDescriptive (seen_texts l.texts) (take l.place (seen_scripts l.scripts)) (seen_descriptions l.all.items)
