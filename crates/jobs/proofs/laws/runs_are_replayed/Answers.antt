use Rattle.jobs.proofs.Own.{runs_faultless}
use Rattle.jobs.proofs.laws.runs_are_replayed.Goals as goal

pub returns : goal.returns
returns c = runs_faultless
