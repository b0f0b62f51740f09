-- What a run takes along may go to other threads.
use denote.Param.Send.{IsSend, sendable}
use Rattle.std.proofs.Crossing.{crosses}
use Rattle.bodystore.proofs.Sent.{stage_send}
use Rattle.tlwords.proofs.Sent.{pass_send}
use Rattle.lending.specs.contracts.kit.Kit as Kit

pub kit_send : IsSend Kit.the_field.row
kit_send = let stage = stage_send in search (pass_send, crosses, sendable) depth 60 fits 100000
