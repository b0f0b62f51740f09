use Rattle.lawful.proofs.Standing.{sessions_stand, other_calls_agree}
use Rattle.lawful.proofs.laws.sessions_stand.Goals as goal

pub returns-clause-stand : goal.returns-clause-stand
returns-clause-stand c = sessions_stand

pub returns-clause-others : goal.returns-clause-others
returns-clause-others c = other_calls_agree
