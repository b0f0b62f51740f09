use Rattle.lawful.proofs.Small.{one_assertion_is_shown}
use Rattle.lawful.proofs.laws.one_assertion_is_shown.Goals as goal

pub returns : goal.returns
returns c = one_assertion_is_shown
