use Rattle.std.proofs.Common.{map}
use Rattle.jobs.proofs.Own.{tells_its_own}
use Rattle.jobs.proofs.answering.answer.Goals as goal

pub returns-in_ok-line-in-Err-clause-own : goal.returns-in_ok-line-in-Err-clause-own
returns-in_ok-line-in-Err-clause-own g c =
    tells_its_own c.args.job.now c.in-Err.fault (map (λ path. path.now) c.args.paths.now) c.in_ok-line-in-Err.field-0
    c.in_ok-line-in-Err.ensures c.in-Err.ensures.own
