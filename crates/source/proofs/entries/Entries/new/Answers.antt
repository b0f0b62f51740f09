-- What is left to show of `new`.
use Rattle.std.proofs.Common.{[], refl}
use Rattle.source.specs.Letters.{decoded}
use Rattle.source.proofs.entries.Entries.new.Goals as goal

pub returns-clause-steps : goal.returns-clause-steps
returns-clause-steps c = λ s. record { steps = record { left = refl; placed = refl; markable = refl }; front = refl }

pub returns-clause-letters : goal.returns-clause-letters
unfolding decoded
returns-clause-letters c =
    λ s e labels. record { codes = []; said = refl; steps = record { left = refl; placed = refl; markable = refl } }
