use Rattle.jobs.specs.declared.job.Job.TheVariants.{Check, Run, Replay}
use Rattle.checking.proofs.LabelText.{database_shown}
use Rattle.jobs.proofs.laws.fault_labels_are_shown.Goals as goal

pub returns : goal.returns
returns c options (Check db) label fault h = database_shown db.items label fault h
returns c options (Run db scripts workers room) label fault h = database_shown db.items label fault h
returns c options (Replay db history) label fault h = database_shown db.items label fault h
