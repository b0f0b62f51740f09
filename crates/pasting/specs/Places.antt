-- Which place in a library what is taken of a source has: `$f` and assertions stand there in the order of the source.
use Rattle.std.specs.Prelude.{Bool, List, [], map, filter}
use Rattle.std.specs.List.{list_any, zip}
use Rattle.mmtext.specs.Words.{Word}
use Rattle.mmsyntax.specs.Tables.{Contents}
use Rattle.source.specs.Scopes.{Scope}
use Rattle.source.specs.Flags.{kept}
use Rattle.taking.specs.Names.{Map, has_float_labelled}

-- these labels of `$f`, and these of assertions, in the order of the library
abbrev pub places_of : List Word → List Word → Contents → Map
places_of floats labels db = record {
  constants = [];
  floats = floats;
  variables = [];
  labels = zip labels (map (λ a. a.label) db.assertions);
}

-- flags say which assertions are taken: with each of them the `$f` that are active there
abbrev pub places_in : Scope → List Bool → Contents → Map
places_in s flags db =
    places_of (filter (λ w. list_any (has_float_labelled w) (kept flags s.assertions)) s.labels)
    (map (λ x. x.label) (kept flags s.assertions)) db
