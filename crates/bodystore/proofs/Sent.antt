-- Stages may go to other threads.
use denote.Param.Send.{IsSend, sendable}
use Rattle.std.proofs.Crossing as std
use Rattle.std.proofs.MapsCrossing as maps
use Rattle.bodystore.specs.contracts.stage.Stage as Stage

pub stage_send : IsSend Stage.the_field.row
stage_send = search (std.crosses, maps.crosses, sendable) depth 60 fits 100000
