use Rattle.scripts.proofs.ScriptLaws.{script_fits}
use Rattle.checking.proofs.laws.spelled_scripts_fit.Goals as goal

pub returns : goal.returns
returns c = script_fits
