-- What of a source has a place in a library, by its name in the source.
use Rattle.std.specs.Prelude.{◌≡◌, ℕ, List, map, filter, length, slice_get, All, Some}
use Rattle.std.specs.List.{list_any}
use Rattle.std.specs.Str.{bytes_eq}
use Rattle.mmtext.specs.Words.{Word}
use Rattle.mmsyntax.specs.Tables.{place_of}
use Rattle.source.specs.Scopes.{Hypothesis, typing, premise, Assertion, Scope}
use Rattle.taking.specs.Names.{is_symbol_of, has_float_labelled}

-- what has the places 0, 1, ..: constants, $f with the places of their types and with their variables, and assertions by their labels
pub record Sited : Type 0 where
  pub constants : List Word
  pub floats : List Word
  pub types : List ℕ
  pub variables : List Word
  pub labels : List Word

-- a $f that is active has its place, with its type and its variable
abbrev pub IsFloatSited : Sited → Hypothesis → Type 0
IsFloatSited t (typing label c v) =
    (j i : ℕ) × (place_of (bytes_eq label) t.floats ≡ Some j) × (place_of (bytes_eq c) t.constants ≡ Some i)
    × (slice_get t.types j ≡ Some i) × (slice_get t.variables j ≡ Some v)
IsFloatSited t (premise label ws) = Unit {0}

-- a type for each $f
abbrev pub AreTyped : Sited → Type 0
AreTyped t = length t.types ≡ length t.floats

-- the sites of some assertions of a source
pub record AreSites (s : Scope) (taken : List Assertion) (t : Sited) : Type 0 where
  pub constants : t.constants ≡ filter (λ w. list_any (is_symbol_of w) taken) s.constants
  pub floats : t.floats ≡ filter (λ w. list_any (has_float_labelled w) taken) s.labels
  pub labels : t.labels ≡ map (λ x. x.label) taken
  pub types : AreTyped t
  pub variables : length t.variables ≡ length t.floats
  pub sited : All (λ x. All (IsFloatSited t) x.active) taken
