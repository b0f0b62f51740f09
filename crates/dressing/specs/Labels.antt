-- The `$e` of what scripts add under the labels of their blocks, where these are free (Metamath book, sections 4.1.3 and 4.2.8).
use Rattle.std.specs.Prelude.{Bool, List, [], ◌∷◌, ◌++◌, ◌&&◌, ◌||◌, ◌==◌, filter, length, take, drop, Option, Some, None, slice_get, if◌then◌else◌}
use Rattle.std.specs.List.{zip}
use Rattle.std.specs.Option.{option_and_then}
use Rattle.std.specs.Str.{bytes_eq}
use mathlib.Core.Bool.{not}
use Rattle.mmtext.specs.Words.{Word}
use Rattle.mmsyntax.specs.Tables.{place_of}
use Rattle.source.specs.Scopes.{Assertion, Scope, is_in}
use Rattle.taking.specs.Listings.{premise_labels}
use Rattle.giving.specs.Staying.{Change}
use Rattle.pasting.specs.Quotes.{GivenLabels}

-- ---- of one assertion

-- nothing else has the label: no symbol and no label of the source but those that are written for these `$e`; and none of these asks for it
abbrev pub is_free : Scope → List Word → List Word → Word → Bool
is_free s written before w = (not (is_in s.symbols w || is_in s.labels w) || is_in written w) && not (is_in before w)

-- what is left of the labels that are written, where each that is free is given
abbrev pub left_of : (Word → Bool) → List Word → List Word → List Word
left_of free written labels = filter (λ w. not (free w && is_in labels w)) written

-- each that is free is given, and in the place of each other the next that is left
abbrev pub given_from : (Word → Bool) → List Word → List Word → List Word
given_from free left [] = []
given_from free left (w ∷ ws) = if free w then w ∷ given_from free left ws else take 1 left ++ given_from free (drop 1 left) ws

abbrev pub labels_then : (Word → Bool) → List Word → List Word → List Word
labels_then free written labels = given_from free (left_of free written labels) labels

-- from the labels that are written to those, where they differ
abbrev pub changes_between : List Word → List Word → List Change
changes_between olds news = filter (λ p. not (bytes_eq p.0 p.1)) (zip olds news)

-- those that are written for the `$e` of an assertion
abbrev pub premises_of : Option Assertion → List Word
premises_of None = []
premises_of (Some x) = premise_labels x.hypotheses

abbrev pub written_for : Scope → Word → List Word
written_for s label = premises_of (option_and_then (slice_get s.assertions) (place_of (λ x. bytes_eq label x.label) s.assertions))

-- for as many `$e` as it has, behind labels that others ask for
abbrev pub changes_to : Scope → List Word → List Word → List Word → List Change
changes_to s before written labels =
    if length written == length labels then changes_between written (labels_then (is_free s written before) written labels) else []

abbrev pub changes_by : Scope → List Word → GivenLabels → List Change
changes_by s before g = changes_to s before (written_for s g.label) g.premises

-- ---- of all, in order: a label goes to the first that asks for it

abbrev pub changes_from : Scope → List Word → List GivenLabels → List Change
changes_from s before [] = []
changes_from s before (g ∷ gs) = changes_by s before g ++ changes_from s (before ++ g.premises) gs
