use Rattle.librarylaws.proofs.Fronts.{fronts_verify}
use Rattle.librarylaws.proofs.laws.fronts_verify.Goals as goal

pub returns : goal.returns
returns c = fronts_verify
