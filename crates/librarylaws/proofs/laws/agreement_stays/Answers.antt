use Rattle.librarylaws.proofs.Agreeing.{agreement_stays, commits_are_legal}
use Rattle.librarylaws.proofs.laws.agreement_stays.Goals as goal

pub returns-clause-stays : goal.returns-clause-stays
returns-clause-stays c = agreement_stays

pub returns-clause-legal : goal.returns-clause-legal
returns-clause-legal c = commits_are_legal
