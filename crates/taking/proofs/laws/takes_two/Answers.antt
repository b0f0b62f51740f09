-- The example `takes_two` computes.
use Rattle.std.specs.Prelude.{[], ◌∷◌, refl}
use Rattle.source.specs.Letters.{decoded}
use Rattle.taking.specs.Examples.{places, taken_m, taken_t}
use Rattle.taking.proofs.Samples.{has_places, keeps_names, says_m, says_t, lists_t}
use Rattle.taking.proofs.laws.takes_two.Goals as goal

pub returns : goal.returns
unfolding decoded
returns c = record {
  there = refl;
  places = places;
  has_places = has_places;
  keeps_names = keeps_names;
  taken = (taken_m, taken_t ∷ [], refl, (says_m, (refl, refl)), (taken_t, [], refl, (says_t, (refl, lists_t)), refl));
  axioms_told = refl;
  names_told = refl;
}
