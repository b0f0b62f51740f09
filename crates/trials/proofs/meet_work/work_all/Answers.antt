use denote.Param.Send.{sendable}
use Rattle.std.proofs.Crossing.{crosses}
use Rattle.transaction.proofs.Sent.{crosses_transaction}
use Rattle.trials.proofs.meet_work.work_all.Goals as goal

pub map_vec-requires-send-J : goal.map_vec-requires-send-J
map_vec-requires-send-J g c κs within = search (crosses_transaction, crosses, sendable) depth 60 fits 100000

pub map_vec-requires-sync-F : goal.map_vec-requires-sync-F
map_vec-requires-sync-F g c κs within =
    let handle = c.type_bounds.sync-R in
    search (crosses_transaction, crosses, sendable) depth 60 fits 100000
