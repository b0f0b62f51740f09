-- The example `taken_say_same` is two lemmas.
use Rattle.taking.proofs.Samples.{says_m, says_t}
use Rattle.taking.proofs.laws.taken_say_same.Goals as goal

pub returns : goal.returns
returns c = (says_m, says_t)
