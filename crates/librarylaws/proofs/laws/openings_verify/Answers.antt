use Rattle.librarylaws.proofs.Opening.{opening_verifies}
use Rattle.librarylaws.proofs.laws.openings_verify.Goals as goal

pub returns : goal.returns
returns c = opening_verifies
