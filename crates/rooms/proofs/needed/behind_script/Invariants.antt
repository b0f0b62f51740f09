use Rattle.std.proofs.Common.{◌≡◌, ◌-◌, sum_by, take}
use Rattle.groundwork.specs.Takes.{command_words}
use Rattle.rooms.proofs.needed.behind_script.Given as goal

abbrev pub invariant-loop-transaction : goal.invariant-loop-transaction
invariant-loop-transaction l =
    l.left ≡ l.room - sum_by (sum_by (command_words (λ label. l.longest))) (take l.transaction-index l.transaction-items)
