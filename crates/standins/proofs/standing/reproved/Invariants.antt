-- What the loop of `reproved` keeps: the labels of the scripts so far.
use Rattle.std.proofs.Common.{◌≡◌, take}
use Rattle.source.specs.Views.{seen_words}
use Rattle.standins.specs.StandIns.{reproved}
use Rattle.standins.proofs.standing.reproved.Given as goal

abbrev pub invariant-loop-script : goal.invariant-loop-script
invariant-loop-script l = seen_words l.labels.items ≡ reproved (take l.script-index l.scripts)
