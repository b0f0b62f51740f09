-- What the loop of `put_reproved` keeps: the labels so far.
use Rattle.std.proofs.Common.{◌≡◌, ◌++◌, take}
use Rattle.std.specs.Prelude.{filter_map}
use Rattle.source.specs.Views.{seen_words}
use Rattle.standins.specs.StandIns.{reproved_by}
use Rattle.standins.proofs.standing.put_reproved.Given as goal

abbrev pub invariant-loop-command : goal.invariant-loop-command
invariant-loop-command l =
    seen_words l.labels.items ≡ seen_words l.fn.labels.items ++ filter_map reproved_by (take l.command-index l.commands)
