use Rattle.std.proofs.Common.{sym}
use Rattle.catalog.specs.Entries.{living}
use Rattle.catalog.proofs.Citable.{proof_fails-none, proof_fails-fault}
use Rattle.catalog.proofs.testing.proof_fault.Goals as goal

pub returns-in-Ok : goal.returns-in-Ok
returns-in-Ok c = λ slots.
    let l = c.args.lower.now in
    sym (proof_fails-none (record { prelude = l.prelude.now; slots = slots }) (living l.entries.now) l.rank c.args.assertion.now
    c.requires c.in-Ok.ensures.yes)

pub returns-in_default : goal.returns-in_default
returns-in_default c = λ slots.
    let l = c.args.lower.now in
    sym (proof_fails-fault (record { prelude = l.prelude.now; slots = slots }) (living l.entries.now) l.rank c.args.assertion.now
    c.in-Err.fault (c.in-Err.ensures.fault c.in_default.not-NoMemory))
