use Rattle.checking.proofs.Accepted.{accepted_checks, accepted_faultless}
use Rattle.jobs.proofs.laws.accepted_texts_check.Goals as goal

pub returns-clause-checked : goal.returns-clause-checked
returns-clause-checked c = accepted_checks

pub returns-clause-faultless : goal.returns-clause-faultless
returns-clause-faultless c options text f a short = accepted_faultless text.items a short f
