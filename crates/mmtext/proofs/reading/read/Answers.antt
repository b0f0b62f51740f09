-- What is left to show of `read`.
use Rattle.mmtext.proofs.Turns.{fault_given}
use Rattle.mmtext.proofs.TextLaws.{answers_said, answers_fault, answers_no_memory}
use Rattle.mmtext.proofs.reading.read.Goals as goal

pub returns-in-Ok : goal.returns-in-Ok
returns-in-Ok g c = answers_said g.R.Reader.meaning (g.R.Reader.language c.args.reader) c.args.text.now c.in-Ok.said c.in-Ok.ensures

pub returns-in-Err-Fault : goal.returns-in-Err-Fault
returns-in-Err-Fault g c =
    answers_fault g.R.Reader.meaning (g.R.Reader.language c.args.reader) c.args.text.now c.in-Err-Fault.fault
    (fault_given _ c.in-Err-Fault.fault _ c.in-Err-Fault.field-0-is c.in-Err-Fault.ensures)

pub returns-in-Err-Memory : goal.returns-in-Err-Memory
returns-in-Err-Memory g c =
    answers_no_memory g.R.Reader.meaning (g.R.Reader.language c.args.reader) c.args.text.now c.no_memory.result c.no_memory.ensures
