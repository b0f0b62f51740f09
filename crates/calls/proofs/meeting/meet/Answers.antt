use denote.Param.Send.{sendable}
use Rattle.std.proofs.Crossing.{crosses}
use Rattle.transaction.proofs.Sent.{crosses_transaction}
use Rattle.calls.proofs.meeting.meet.Goals as goal

pub join-met-requires-send-F : goal.join-met-requires-send-F
join-met-requires-send-F g c κs within = search (crosses_transaction, crosses, sendable) depth 60 fits 100000

pub join-met-requires-send-A : goal.join-met-requires-send-A
join-met-requires-send-A g c κs within = search (crosses_transaction, crosses, sendable) depth 60 fits 100000
