-- The names in a library: each that the profile allows is kept, and each other is changed to a fresh one.
use Rattle.std.specs.Prelude.{◌≡◌, ◌⊎◌, ◌&&◌, Bool, List, length, map, IsTrue}
use mathlib.Core.Bool.{not}
use Rattle.std.specs.List.{list_all, list_any, zip}
use Rattle.mmtext.specs.Words.{Word, has_dot, has_hypothesis_form}
use Rattle.mmsyntax.specs.Dotted.{is_dotted, trunk}
use Rattle.source.specs.Scopes.{Scope, is_in}
use Rattle.taking.specs.Fresh.{AreGiven, beside, IsRefused}
use Rattle.taking.specs.Names.{is_fresh, is_symbol_named_well, are_variables_named_well, is_float_named_well, is_label_named_well}
use Rattle.taking.specs.declared.fresh.Unnamed.{Unnamed}
use Rattle.taking.specs.declared.fresh.Unnamed.TheVariants.{NoFreshName, NoMemory}
use Rattle.sites.specs.declared.names.LibraryNames.{LibraryNames}
use Rattle.sites.specs.Changes.{variables_changing}

-- the names of constants, of variables and labels of $f, and of labels of assertions
pub record AreNamedWell (s : Scope) (cs vs fs ls : List Word) (names : LibraryNames) : Type 0 where
  pub as_many_constants : length names.constants ≡ length cs
  pub as_many_variables : length names.variables ≡ length vs
  pub as_many_floats : length names.floats ≡ length fs
  pub as_many_labels : length names.labels ≡ length ls
  pub constants : IsTrue (list_all (is_symbol_named_well s) (zip cs names.constants))
  pub variables : IsTrue (are_variables_named_well s (zip vs names.variables))
  pub floats : IsTrue (list_all (is_float_named_well s) (zip fs names.floats))
  pub labels : IsTrue (list_all (is_label_named_well s ls) (zip ls names.labels))

-- ---- a word without a name

-- the names that may be given: no symbol or label of the source has them, none is L beside a label L.k, and none has a dot
abbrev pub may_be_given : Scope → List Word → Word → Bool
may_be_given s labels w = is_fresh s w && (not (is_in (map trunk labels) w) && not (has_dot w))

-- one of some words is refused; or they have names, and what is free beside these refuses one behind them
abbrev pub IsRefusedFrom : (Word → Bool) → List Bool → List Word → Word → ((Word → Bool) → Type 0) → Type 0
IsRefusedFrom is_free changes words w behind =
    IsRefused is_free changes words w ⊎ ((names : List Word) × AreGiven is_free changes words names × behind (beside is_free names))

-- which word has no name: names are given to constants, variables, labels of $f and labels of assertions, in this order
abbrev pub IsUnnamed : Scope → (cs vs fs ls : List Word) → Word → Type 0
IsUnnamed s cs vs fs ls w =
    IsRefusedFrom (may_be_given s ls) (map has_hypothesis_form cs) cs w (λ behind_constants.
    IsRefusedFrom behind_constants (variables_changing vs) vs w (λ behind_variables.
    IsRefusedFrom behind_variables (map has_dot fs) fs w (λ behind_floats.
    IsRefused behind_floats (map (λ p. list_any (λ l. is_dotted l p) ls) ls) ls w)))

-- why there are no names
abbrev pub AreUnnamed : Scope → (cs vs fs ls : List Word) → Unnamed → Type 0
AreUnnamed s cs vs fs ls (NoFreshName w) = IsUnnamed s cs vs fs ls w.now
AreUnnamed s cs vs fs ls NoMemory = Unit {0}
