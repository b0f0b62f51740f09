-- Sessions may go to other threads, and a library and scripts may be shared by threads.
use denote.Param.Send.{IsSend, IsSync, sendable}
use Rattle.std.proofs.Crossing.{crosses}
use Rattle.std.proofs.MapsCrossing as maps
use Rattle.tlwords.proofs.Sent.{words_sync}
use Rattle.lending.proofs.Sent.{kit_send}
use Rattle.mmsyntax.specs.contracts.label.Label as Label
use Rattle.mmsyntax.specs.contracts.statement.Assertion as Assertion
use Rattle.mmsyntax.specs.contracts.prelude.Prelude as Prelude
use Rattle.library.specs.contracts.command.Command as Command
use Rattle.library.specs.contracts.command.Reply as Reply
use Rattle.lawful.specs.contracts.notes.Given as Given
use Rattle.transaction.specs.contracts.outcome.Record as Record
use Rattle.transaction.specs.contracts.outcome.Outcome as Outcome
use Rattle.transaction.specs.contracts.session.Session as Session
use Rattle.transaction.specs.contracts.running.Library as Library

label_send : IsSend Label.the_field.row
label_send = search (crosses, sendable) depth 60 fits 100000

assertion_send : IsSend Assertion.the_field.row
assertion_send = let label = label_send in search (crosses, sendable) depth 60 fits 100000

pub command_send : IsSend Command.the_field.row
command_send = let label = label_send in let assertion = assertion_send in search (crosses, sendable) depth 60 fits 100000

reply_send : IsSend Reply.the_field.row
reply_send = let label = label_send in let assertion = assertion_send in search (crosses, sendable) depth 60 fits 100000

label_sync : IsSync Label.the_field.row
label_sync = search (crosses, sendable) depth 60 fits 100000

assertion_sync : IsSync Assertion.the_field.row
assertion_sync = let label = label_sync in search (crosses, sendable) depth 60 fits 100000

pub command_sync : IsSync Command.the_field.row
command_sync = let label = label_sync in let assertion = assertion_sync in search (crosses, sendable) depth 60 fits 100000

reply_sync : IsSync Reply.the_field.row
reply_sync = let label = label_sync in let assertion = assertion_sync in search (crosses, sendable) depth 60 fits 100000

-- commands and replies are shared with other records and outcomes, and so with their threads
pub record_send : IsSend Record.the_field.row
record_send =
    let command = command_send in
    let commands = command_sync in
    let reply = reply_send in
    let replies = reply_sync in
    search (crosses, sendable) depth 60 fits 100000

pub outcome_send : IsSend Outcome.the_field.row
outcome_send = search (crosses, sendable) depth 60 fits 100000

pub session_send : IsSend Session.the_field.row
session_send = let own = record_send in let kit = kit_send in search (crosses, sendable) depth 60 fits 100000

prelude_sync : IsSync Prelude.the_field.row
prelude_sync = search (crosses, maps.crosses, sendable) depth 60 fits 100000

given_sync : IsSync Given.the_field.row
given_sync = search (crosses, sendable) depth 60 fits 100000

pub library_sync : IsSync Library.the_field.row
library_sync = let prelude = prelude_sync in let given = given_sync in search (words_sync, crosses, sendable) depth 60 fits 100000

-- for a `search` that asks for these
pub ruleset crosses_transaction = (record_send, outcome_send, session_send, library_sync, command_send, command_sync)
