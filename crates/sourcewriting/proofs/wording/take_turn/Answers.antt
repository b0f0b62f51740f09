use Rattle.std.proofs.Common.{[], ◌∷◌, ◌++◌, refl}
use Rattle.sourcewriting.proofs.wording.take_turn.Goals as goal

pub returns-in-Some-word_at-clause-laid : goal.returns-in-Some-word_at-clause-laid
returns-in-Some-word_at-clause-laid c = λ i has. (has.0 ++ c.in-Some-word_at.label.now ∷ [], c.put_label.ensures.laid i [] has.0 refl has.1)
