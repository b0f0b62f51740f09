use Rattle.lawful.proofs.Keeping.{shown_is_kept}
use Rattle.lawful.proofs.laws.shown_is_kept.Goals as goal

pub returns : goal.returns
returns c = shown_is_kept
