-- The map of names: which name of the library each name of the source has, where it keeps its name, and what is told.
use Rattle.std.specs.Prelude.{◌≡◌, ℕ, Bool, true, false, ◌||◌, ◌&&◌, List, [], ◌∷◌, ◌++◌, length, map, filter, find, Option}
use Rattle.std.specs.Prelude.{IsTrue, if◌then◌else◌}
use mathlib.Core.Bool.{not}
use Rattle.std.specs.Option.{option_map, option_and_then}
use Rattle.std.specs.List.{list_any, list_all, zip, range_with_len}
use Rattle.std.specs.Str.{bytes_eq}
use Rattle.mmtext.specs.Words.{Word, has_dot, has_hypothesis_form}
use Rattle.mmsyntax.specs.Tables.{Tables, place_of}
use Rattle.mmsyntax.specs.Preludes.{float_labels, variables_used}
use Rattle.mmsyntax.specs.Dotted.{is_dotted}
use Rattle.source.specs.Scopes.{Hypothesis, typing, premise, label_of, Assertion, Scope, is_float_of, is_in}

-- ---- places

-- what has the places 0, 1, .. of the library, by its name in the source
pub record Map : Type 0 where
  pub constants : List Word
  -- the labels of the $f
  pub floats : List Word
  -- the variables of these $f; two local $f of one variable are two
  pub variables : List Word
  -- the labels of the assertions, each with that in the library
  pub labels : List (Word × Word)

-- the label of an assertion
abbrev pub label_in : Map → Word → Option Word
label_in m w = option_map (λ p. p.1) (find (λ p. bytes_eq w p.0) m.labels)

-- the place of a constant, of the $f with a label, and of the active $f of a variable
abbrev pub constant_in : Map → Word → Option ℕ
constant_in m w = place_of (bytes_eq w) m.constants

abbrev pub float_in : Map → Word → Option ℕ
float_in m label = place_of (bytes_eq label) m.floats

abbrev pub variable_in : Map → List Hypothesis → Word → Option ℕ
variable_in m active w = option_and_then (λ h. float_in m (label_of h)) (find (is_float_of w) active)

-- ---- what of the source has a place

-- a symbol stands in a hypothesis, and in an assertion or one of its active hypotheses
abbrev pub is_symbol_of_hypothesis : Word → Hypothesis → Bool
is_symbol_of_hypothesis w (typing label c v) = bytes_eq w c
is_symbol_of_hypothesis w (premise label ws) = is_in ws w

abbrev pub is_symbol_of : Word → Assertion → Bool
is_symbol_of w x = is_in x.statement w || list_any (is_symbol_of_hypothesis w) x.active

-- the hypothesis is a $f with this label, and such a one is active at an assertion
abbrev pub is_float_labelled : Word → Hypothesis → Bool
is_float_labelled w (typing label c v) = bytes_eq w label
is_float_labelled w (premise label ws) = false

abbrev pub has_float_labelled : Word → Assertion → Bool
has_float_labelled w x = list_any (is_float_labelled w) x.active

-- what is taken of a source has places in the order of the source: the constants that stand in it, the $f that are active there, those of
-- dummy variables too, and its labels. The variable at a place is that of the $f at this place. In a source each constant and each label
-- stands once, and in a library all names differ: so no name of the library stands for two of the source
pub record HasPlaces (m : Map) (t : Tables) (s : Scope) (taken : List Assertion) : Type 0 where
  pub constants : m.constants ≡ filter (λ w. list_any (is_symbol_of w) taken) s.constants
  pub floats : m.floats ≡ filter (λ w. list_any (has_float_labelled w) taken) s.labels
  pub labels : map (λ p. p.0) m.labels ≡ map (λ x. x.label) taken
  pub as_many_constants : length t.constants ≡ length m.constants
  pub as_many_floats : length t.floats ≡ length m.floats
  pub as_many_variables : length t.variables ≡ length m.variables
  pub variables : variables_used t.floats ≡ range_with_len 0 (length m.variables)

-- ---- names

-- a name of the source, and that of the library
abbrev pub Naming : Type 0
Naming = Word × Word

-- no symbol or label of the source has the name, in closed blocks neither
abbrev pub is_fresh : Scope → Word → Bool
is_fresh s w = not (is_in s.symbols w || is_in s.labels w)

-- a name that the profile doesn't allow is changed to a fresh one, and each other name is kept
abbrev pub is_named_well : Scope → Bool → Naming → Bool
is_named_well s changes p = if changes then is_fresh s p.1 else bytes_eq p.0 p.1

-- no symbol has the form of a hypothesis' label, and no label of a $f a dot (rules of the profile)
abbrev pub is_symbol_named_well : Scope → Naming → Bool
is_symbol_named_well s p = is_named_well s (has_hypothesis_form p.0) p

abbrev pub is_float_named_well : Scope → Naming → Bool
is_float_named_well s p = is_named_well s (has_dot p.0) p

-- the variables of $f: each has a name of its own, and of several $f of one variable the last keeps it. That is the outermost: no $f of a
-- variable stands behind another one that is active
abbrev pub are_variables_named_well : Scope → List Naming → Bool
are_variables_named_well s [] = true
are_variables_named_well s (p ∷ ps) =
    is_named_well s (has_hypothesis_form p.0 || is_in (map (λ q. q.0) ps) p.0) p && are_variables_named_well s ps

-- where L is taken too, L.k is changed (a rule of the profile)
abbrev pub is_label_named_well : Scope → List Word → Naming → Bool
is_label_named_well s taken p = is_named_well s (list_any (λ l. is_dotted l p.0) taken) p

-- each name of the library with that of the source
abbrev pub constant_namings : Map → Tables → List Naming
constant_namings m t = zip m.constants t.constants

abbrev pub variable_namings : Map → Tables → List Naming
variable_namings m t = zip m.variables t.variables

abbrev pub float_namings : Map → Tables → List Naming
float_namings m t = zip m.floats (float_labels t.floats)

-- all names are kept that the profile allows
pub record KeepsNames (m : Map) (t : Tables) (s : Scope) : Type 0 where
  pub constants : IsTrue (list_all (is_symbol_named_well s) (constant_namings m t))
  pub variables : IsTrue (are_variables_named_well s (variable_namings m t))
  pub floats : IsTrue (list_all (is_float_named_well s) (float_namings m t))
  pub labels : IsTrue (list_all (is_label_named_well s (map (λ p. p.0) m.labels)) m.labels)

-- the names that were changed: constants, variables, labels of $f, labels of assertions
abbrev pub renamed : Map → Tables → List Naming
renamed m t =
    filter (λ p. not (bytes_eq p.0 p.1)) (constant_namings m t ++ variable_namings m t ++ float_namings m t ++ m.labels)
