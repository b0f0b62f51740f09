-- Which labels of a source no assertion of it has with the edits of a history.
use Rattle.std.specs.Prelude.{◌&&◌, List, ◌++◌, filter, map}
use mathlib.Core.Bool.{not}
use Rattle.mmtext.specs.Words.{Word}
use Rattle.source.specs.Scopes.{Scope, is_in}
use Rattle.sourceediting.specs.Following.{Following, changes_of, label_then}

-- the labels in the source of assertions that were given another one, or deleted
abbrev pub given_up : Following → List Word
given_up f = map (λ c. c.0) (changes_of f) ++ f.gone

-- those that no assertion has in the end, in the order of the source
abbrev pub vanished : Scope → Following → List Word
vanished s f = filter (λ w. is_in (given_up f) w && not (is_in (map label_then f.living) w)) s.labels
