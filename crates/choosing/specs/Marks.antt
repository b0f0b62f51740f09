-- Of the code's inside, apart from the rules: marks on assertions by their places.
use Rattle.std.specs.Prelude.{◌≡◌, ℕ, Bool, List, [], map, take, drop, find, Option, Some, None, ◌||◌, IsTrue, slice_index_or}
use mathlib.Core.Bool.{not}
use Rattle.std.specs.List.{list_any}
use Rattle.std.specs.Str.{bytes_eq}
use Rattle.mmtext.specs.Words.{Word}
use Rattle.source.specs.Scopes.{Assertion, Scope, is_in}
use Rattle.taking.specs.Nodes.{Shared}
use Rattle.taking.specs.Reasons.{needed}
use Rattle.choosing.specs.Choices.{labels_of, have_room, with_needs, place_in}
use Rattle.choosing.specs.declared.wish.Unchosen.{Unchosen}
use Rattle.choosing.specs.declared.wish.Unchosen.TheVariants as unchosen

-- those assertions are marked whose labels pass
abbrev pub AreMarked : List Assertion → (Word → Bool) → List Bool → Type 0
AreMarked xs test marks = map (λ x. test x.label) xs ≡ marks

-- the first of labels that no assertion has
abbrev pub unknown_among : Scope → List Word → Option Word
unknown_among s ws = find (λ l. not (is_in (labels_of s.assertions) l)) ws

-- it is why a wish with these labels is refused
abbrev pub IsUnknownAmong : Scope → List Word → Unchosen → Type 0
IsUnknownAmong s ws (unchosen.UnknownLabel label) =
    IsTrue (is_in ws label.now) × (place_in s label.now ≡ None) × (unknown_among s ws ≡ Some label.now)
IsUnknownAmong s ws _ = ⊥

-- a node names the word
abbrev pub is_named : List Word → List Shared → Word → Bool
is_named labels nodes w = list_any (λ n. bytes_eq w (slice_index_or labels n.named [])) nodes

-- those that are needed by the assertion at a place are marked too
abbrev pub AreMarkedToo : List Assertion → ℕ → (Word → Bool) → List Bool → Option Assertion → Type 0
AreMarkedToo xs place test marks None = Unit {0}
AreMarkedToo xs place test marks (Some x) = AreMarked xs (λ w. is_in (needed (take place xs) x) w || test w) marks

-- of marks that are set where a label is wanted: what is wanted with the assertion at a place is marked
abbrev pub AreWidened : ℕ → List Assertion → ℕ → List Word → List Bool → Option Assertion → Type 0
AreWidened most xs place wanted marks None = Unit {0}
AreWidened most xs place wanted marks (Some x) =
    AreMarked xs (is_in (with_needs (have_room most xs) (needed (take place xs) x) wanted)) marks

-- those from a place up to another
abbrev pub from_to : ℕ → ℕ → List Assertion → List Assertion
from_to begin end xs = drop begin (take end xs)
