-- What the loop of `axiom_labels` keeps: the labels so far.
use Rattle.std.proofs.Common.{◌≡◌, take}
use Rattle.source.specs.Views.{seen_words}
use Rattle.standins.specs.Ending.{axiom_labels}
use Rattle.standins.specs.Views.{seen_stand_ins}
use Rattle.standins.proofs.withdrawing.axiom_labels.Given as goal

abbrev pub invariant-loop-stand_in : goal.invariant-loop-stand_in
invariant-loop-stand_in l = seen_words l.labels.items ≡ axiom_labels (seen_stand_ins (take l.stand_in-index l.stand_ins))
