use Rattle.lawful.proofs.Keeping.{lawful_is_kept}
use Rattle.lawful.proofs.laws.lawful_is_kept.Goals as goal

pub returns : goal.returns
returns c = lawful_is_kept
