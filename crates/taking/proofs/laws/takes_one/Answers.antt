-- The example `takes_one` computes.
use Rattle.std.specs.Prelude.{[], refl}
use Rattle.mmsyntax.specs.Dotted.{is_dotted, hypothesis_numbered}
use Rattle.source.specs.Letters.{decoded}
use Rattle.taking.specs.Examples.{places_alone, taken_alone}
use Rattle.taking.proofs.Samples.{says_alone}
use Rattle.taking.proofs.laws.takes_one.Goals as goal

pub returns : goal.returns
unfolding decoded is_dotted hypothesis_numbered
returns c = record {
  there = refl;
  places = places_alone;
  has_places = record {
    constants = refl;
    floats = refl;
    labels = refl;
    as_many_constants = refl;
    as_many_floats = refl;
    as_many_variables = refl;
    variables = refl;
  };
  keeps_names = record { constants = refl; variables = refl; floats = refl; labels = refl };
  taken = (taken_alone, [], refl, (says_alone, (refl, refl)), refl);
  axioms_told = refl;
  names_told = refl;
}
