-- The example `names_have_places` is two lemmas.
use Rattle.taking.proofs.Samples.{has_places, keeps_names}
use Rattle.taking.proofs.laws.names_have_places.Goals as goal

pub returns : goal.returns
returns c = (has_places, keeps_names)
