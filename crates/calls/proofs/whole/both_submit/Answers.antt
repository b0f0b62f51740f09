use denote.Param.Send.{sendable}
use Rattle.std.proofs.Crossing.{crosses}
use Rattle.transaction.proofs.Sent.{crosses_transaction}
use Rattle.calls.proofs.whole.both_submit.Goals as goal

pub join-done-requires-send-F : goal.join-done-requires-send-F
join-done-requires-send-F g c κs within =
    let handle = c.type_bounds.sync-R in search (crosses_transaction, crosses, sendable) depth 60 fits 100000

pub join-done-requires-send-A : goal.join-done-requires-send-A
join-done-requires-send-A g c κs within = search (crosses_transaction, crosses, sendable) depth 60 fits 100000
