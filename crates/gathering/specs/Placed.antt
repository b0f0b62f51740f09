-- The map of names and the prelude that sites and their names make, and the symbols of words where hypotheses are active.
use Rattle.std.specs.Prelude.{ℕ, suc, List, [], ◌∷◌, Option}
use Rattle.std.specs.List.{zip}
use Rattle.std.specs.Str.{bytes_eq}
use Rattle.mmtext.specs.Words.{Word}
use Rattle.mmsyntax.specs.declared.statement.Float.{Float}
use Rattle.mmsyntax.specs.declared.statement.Symbol.{Symbol}
use Rattle.mmsyntax.specs.Tables.{Tables, place_of}
use Rattle.taking.specs.Names.{Map}
use Rattle.taking.specs.Says.{symbol_at}
use Rattle.sites.specs.Actives.{Placed, float_at}
use Rattle.sites.specs.Sites.{Sited}
use Rattle.sites.specs.declared.names.LibraryNames.{LibraryNames}

abbrev pub map_of : Sited → LibraryNames → Map
map_of t names = record {
  constants = t.constants;
  floats = t.floats;
  variables = t.variables;
  labels = zip t.labels names.labels;
}

-- the $f from a place on: the variable at a place is that of the $f there
abbrev pub floats_from : ℕ → List Word → List ℕ → List Float
floats_from j (label ∷ labels) (i ∷ types) = record { label = label; type_code = i; variable = j } ∷ floats_from (suc j) labels types
floats_from j _ _ = []

abbrev pub tables_of : Sited → LibraryNames → Tables
tables_of t names = record {
  constants = names.constants;
  variables = names.variables;
  floats = floats_from 0 names.floats t.types;
}

-- the symbol of a word where hypotheses are active, if it has a place
abbrev pub symbols_by : Placed → Word → Option Symbol
symbols_by p w = symbol_at (place_of (bytes_eq w) p.constants) (float_at p w)
