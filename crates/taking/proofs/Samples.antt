-- What is taken of the example says the same, and its proof is listed.
use Rattle.std.specs.Prelude.{[], ◌∷◌, codes, refl}
use Rattle.std.proofs.lemmas.List.Elements.{All-from_recursion}
use Rattle.mmsyntax.specs.Dotted.{is_dotted, hypothesis_numbered}
use Rattle.source.specs.Letters.{decoded}
use Rattle.source.specs.Proofs.{node, over}
use Rattle.source.specs.Examples.{m, n, t, leaf}
use Rattle.taking.specs.Names.{HasPlaces, KeepsNames}
use Rattle.taking.specs.Says.{IsFloatTaken, SaysSame}
use Rattle.taking.specs.Listings.{IsListed}
use Rattle.taking.specs.Taken.{chosen_of}
use Rattle.taking.specs.Examples.{whole, wp, wr, ws, xr, library, places, taken_m, taken_t, both_chosen}
use Rattle.taking.specs.Examples.{xr_alone, library_alone, places_alone, taken_alone}

pub has_places : HasPlaces places library whole (chosen_of both_chosen whole)
has_places = record {
  constants = refl;
  floats = refl;
  labels = refl;
  as_many_constants = refl;
  as_many_floats = refl;
  as_many_variables = refl;
  variables = refl;
}

pub keeps_names : KeepsNames places library whole
unfolding is_dotted hypothesis_numbered
keeps_names = record { constants = refl; variables = refl; floats = refl; labels = refl }

pub says_m : SaysSame places library m taken_m
says_m = record {
  label = refl;
  floats = All-from_recursion (IsFloatTaken places library) m.active
      ((0, wp, refl, refl, refl, refl), (tt, ((1, wr, refl, refl, refl, refl), ((2, ws, refl, refl, refl, refl), tt))));
  hyps = refl;
  statement = refl;
  pairs = refl;
}

pub says_t : SaysSame places library t taken_t
says_t = record {
  label = refl;
  floats = All-from_recursion (IsFloatTaken places library) t.active
      ((0, wp, refl, refl, refl, refl), ((3, xr, refl, refl, refl, refl), (tt, tt)));
  hyps = refl;
  statement = refl;
  pairs = refl;
}

pub lists_t : IsListed places (m ∷ n ∷ []) t taken_t
unfolding decoded
lists_t = record {
  tree = node (codes "m") (over (leaf (codes "xr") ∷ leaf (codes "g") ∷ leaf (codes "wp") ∷ []));
  denotes = refl;
  lists = refl;
}

-- also without its proof
pub says_alone : SaysSame places_alone library_alone t taken_alone
says_alone = record {
  label = refl;
  floats = All-from_recursion (IsFloatTaken places_alone library_alone) t.active
      ((0, wp, refl, refl, refl, refl), ((1, xr_alone, refl, refl, refl, refl), (tt, tt)));
  hyps = refl;
  statement = refl;
  pairs = refl;
}
