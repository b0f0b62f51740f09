-- The law is a lemma.
use Rattle.std.proofs.Common.{refl}
use Rattle.taking.specs.Reasons.{reason}
use Rattle.taking.proofs.LongListings.{taken_short}
use Rattle.taking.proofs.lengths.taken_are_short.Goals as goal

pub returns : goal.returns
returns c = λ m t choice earlier x a taken. taken_short m choice earlier x a x.proof (reason choice earlier x) refl refl taken.1
