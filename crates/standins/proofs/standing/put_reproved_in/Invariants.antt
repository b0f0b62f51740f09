-- What the loop of `put_reproved_in` keeps: the labels of the transactions so far.
use Rattle.std.proofs.Common.{◌≡◌, ◌++◌, take}
use Rattle.std.specs.Prelude.{filter_map}
use Rattle.std.specs.List.{flat_map}
use Rattle.source.specs.Views.{seen_words}
use Rattle.standins.specs.StandIns.{reproved_by}
use Rattle.standins.proofs.standing.put_reproved_in.Given as goal

abbrev pub invariant-loop-transaction : goal.invariant-loop-transaction
invariant-loop-transaction l =
    seen_words l.labels.items
    ≡ seen_words l.fn.labels.items ++ flat_map (filter_map reproved_by) (take l.transaction-index l.transaction-items)
