-- Claimants may go to other threads, and numbers may be shared by threads.
use denote.Param.Send.{IsSend, IsSync, sendable}
use Rattle.std.proofs.Crossing.{crosses}
use Rattle.atomic_table.proofs.shared.Seat.TheSendSync.{the_send as seat_send}
use Rattle.atomic_table.proofs.shared.Shared.TheSendSync.{the_sync as shared_sync}
use Rattle.atomic_table.proofs.send_lease.SendLease.TheSendSync.{the_sync as lease_sync}
use Rattle.claims.specs.contracts.claimant.Claimant as Claimant
use Rattle.claims.specs.contracts.numbers.Numbers as Numbers

pub claimant_send : IsSend Claimant.the_field.row
claimant_send = search (seat_send, crosses, sendable) depth 60 fits 100000

pub numbers_sync : IsSync Numbers.the_field.row
numbers_sync = search (shared_sync, lease_sync, crosses, sendable) depth 60 fits 100000
