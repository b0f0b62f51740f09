use denote.Param.Send.{sendable}
use Rattle.std.proofs.Crossing.{crosses}
use Rattle.claims.proofs.Sent.{claimant_send, numbers_sync}
use Rattle.transaction.proofs.Sent.{crosses_transaction}
use Rattle.workers.proofs.team.start.Goals as goal

pub spawn_with-requires-send-F : goal.spawn_with-requires-send-F
spawn_with-requires-send-F g c κs within =
    let handle = c.type_bounds.sync-R in
    let gate = c.type_bounds.sync-G in
    search (crosses_transaction, claimant_send, numbers_sync, crosses, sendable) depth 60 fits 100000

pub spawn_with-requires-send-T : goal.spawn_with-requires-send-T
spawn_with-requires-send-T g c κs within = search (crosses_transaction, claimant_send, crosses, sendable) depth 60 fits 100000
