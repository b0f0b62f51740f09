use Rattle.std.proofs.Common.{Ok, rules}
use Rattle.jobs.proofs.Own.{answers_its_own}
use Rattle.jobs.proofs.RunFaults.{has_fault}
use Rattle.jobs.proofs.performing.perform.Goals as goal

pub returns-in_err-out-in-Check-clause-own : goal.returns-in_err-out-in-Check-clause-own
returns-in_err-out-in-Check-clause-own g c =
    answers_its_own c.args.options c.args.job.now c.from_residual.result (search rules) (search rules)

pub returns-clause-own : goal.returns-clause-own
returns-clause-own g c =
    answers_its_own c.args.options c.args.job.now (Ok (record { out = c.match-job.out; history = c.new.result })) (search rules) tt

pub returns-in_err-out-in-Replay-clause-own : goal.returns-in_err-out-in-Replay-clause-own
returns-in_err-out-in-Replay-clause-own g c =
    answers_its_own c.args.options c.args.job.now c.from_residual-in_err-out-in-Replay.result (search rules) (search rules)

pub returns-in_err-out-in-Check-clause-fault : goal.returns-in_err-out-in-Check-clause-fault
returns-in_err-out-in-Check-clause-fault g c = has_fault c.args.options c.args.job.now c.from_residual.result (search rules)

pub returns-in_err-out-in-Replay-clause-fault : goal.returns-in_err-out-in-Replay-clause-fault
returns-in_err-out-in-Replay-clause-fault g c =
    has_fault c.args.options c.args.job.now c.from_residual-in_err-out-in-Replay.result (search rules)
