-- Passes may go to other threads, and the words may be shared by threads.
use denote.RattleType.{RattleType}
use denote.Param.Send.{IsSend, IsSync, sendable}
use Rattle.std.proofs.Crossing.{crosses}
use Rattle.atomic_table.proofs.shared.Seat.TheSendSync.{the_send as seat_send}
use Rattle.atomic_table.proofs.shared.Shared.TheSendSync.{the_sync as shared_sync}
use Rattle.atomic_table.proofs.send_lease.SendLease.TheSendSync.{the_sync as lease_sync}
use Rattle.tlwords.specs.declared.law.Law.{Ghosts}
use Rattle.tlwords.specs.contracts.log.Log as Log
use Rattle.tlwords.specs.contracts.passes.Pass as Pass
use Rattle.tlwords.specs.contracts.words.Words as Words

log_send : IsSend Log.the_field.row
log_send = search (crosses, sendable) depth 60 fits 100000

-- whatever the law is
pub pass_send : (L S N : RattleType) (g : Ghosts L.Denot S.Denot N.Denot) → IsSend (Pass.the_field L S N g).row
pass_send L S N g = let log = log_send in search (seat_send, crosses, sendable) depth 60 fits 100000

pub words_sync : (L S N : RattleType) (g : Ghosts L.Denot S.Denot N.Denot) → IsSync (Words.the_field L S N g).row
words_sync L S N g = search (shared_sync, lease_sync, crosses, sendable) depth 60 fits 100000
