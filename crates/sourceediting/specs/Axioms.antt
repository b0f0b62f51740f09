-- Which assertions of a library are axioms behind the edits of a history, by their labels in the source.
use Rattle.std.specs.Prelude.{List, map, filter, filter_map, Option, Some, None, if◌then◌else◌}
use Rattle.mmtext.specs.Words.{Word}
use Rattle.mmsyntax.specs.declared.statement.Assertion.{Assertion}
use Rattle.source.specs.Scopes.{is_in}
use Rattle.library.specs.Edits.{is_axiom}
use Rattle.sourceediting.specs.Following.{Followed, label_then}

-- the labels of the axioms among assertions
abbrev pub axiom_labels : List Assertion → List Word
axiom_labels as' = map (λ a. a.label) (filter (λ a. is_axiom a.kind) as')

-- an assertion's label in the source then, if it has one of these labels in the library
abbrev pub axiom_label : List Word → Followed → Option Word
axiom_label labels x = if is_in labels x.now then Some (label_then x) else None

-- the labels in the source then of those that are axioms in the edited library, in their order
abbrev pub axioms_then : List Assertion → List Followed → List Word
axioms_then edited living = filter_map (axiom_label (axiom_labels edited)) living
