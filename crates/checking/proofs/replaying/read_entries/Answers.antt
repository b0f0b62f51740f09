use Rattle.checking.proofs.ScriptFaults.{refused_with}
use Rattle.checking.proofs.DatabaseFaults.{text_memory}
use Rattle.checking.proofs.ReplayFaults.{short_history, history_faulted}
use Rattle.checking.proofs.replaying.read_entries.Goals as goal

pub returns-in-Ok-clause-only : goal.returns-in-Ok-clause-only
returns-in-Ok-clause-only c history is = c.in-Ok.ensures.read.only history (short_history c.args.prelude.now _ is.faultless) is.spelled

pub returns-in-Err-clause-only : goal.returns-in-Err-clause-only
returns-in-Err-clause-only c history is =
    text_memory 1 c.in-Err.fault c.text_fault.result c.text_fault.ensures
    (c.in-Err.ensures.read.only history (short_history c.args.prelude.now _ is.faultless) is.spelled)

pub returns-in-Err-clause-fault : goal.returns-in-Err-clause-fault
returns-in-Err-clause-fault c =
    history_faulted c.args.prelude.now c.args.text.now c.in-Err.fault c.text_fault.result c.text_fault.ensures c.in-Err.ensures.read.fault

pub returns-in-Err-clause-refused : goal.returns-in-Err-clause-refused
returns-in-Err-clause-refused c f faulty =
    refused_with c.args.prelude.now 1 c.in-Err.fault f c.text_fault.result c.text_fault.ensures (c.in-Err.ensures.read.refused f faulty)

pub returns-in-Ok-clause-done : goal.returns-in-Ok-clause-done
returns-in-Ok-clause-done c = record { spelled = c.in-Ok.ensures.read.found; faultless = c.in-Ok.ensures.read.refused }
