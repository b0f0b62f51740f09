-- Of the code's inside, apart from the rules: what the labels of active hypotheses name.
use Rattle.std.specs.Prelude.{◌≡◌, ℕ, Bool, true, false, ◌&&◌, List, length, Option, Some, None, if◌then◌else◌}
use mathlib.Core.Bool.{not}
use Rattle.std.specs.List.{list_any}
use Rattle.std.specs.Str.{bytes_eq}
use Rattle.std.specs.HashMap.{HashMap, get_by}
use Rattle.std.specs.Borrow.{Bor}
use Rattle.std.specs.declared.random_state.RandomState.{RandomState}
use Rattle.mmtext.specs.Words.{Word}
use Rattle.mmsyntax.specs.Tables.{place_of}
use Rattle.source.specs.Scopes.{Hypothesis, label_of}
use Rattle.taking.specs.Listings.{premise_labels}
use Rattle.prooftrees.specs.declared.roles.Role.{Role}
use Rattle.prooftrees.specs.declared.roles.Role.TheVariants.{Float, Premise}

-- a label names a $e by its number among them, or else a $f
abbrev pub role_in : Bool → Option ℕ → Option Role
role_in is_active (Some n) = Some (Premise n)
role_in true None = Some Float
role_in false None = None

-- whether the label is that of a hypothesis
abbrev pub is_label_of : List Hypothesis → Word → Bool
is_label_of hs w = list_any (λ h. bytes_eq w (label_of h)) hs

abbrev pub role_of : List Hypothesis → Word → Option Role
role_of hs w = role_in (is_label_of hs w) (place_of (bytes_eq w) (premise_labels hs))

-- the number of a $e
abbrev pub number_of : Role → Option ℕ
number_of Float = None
number_of (Premise n) = Some n

-- what a label names so far stays behind one more hypothesis
abbrev pub stays : Option Role → Role → Bool
stays None role = false
stays (Some Float) Float = true
stays (Some Float) (Premise n) = false
stays (Some (Premise m)) role = true

-- what a word names behind one more hypothesis, whose label it is or not
abbrev pub noted : Role → Bool → Option Role → Option Role
noted role here so_far = if here && not (stays so_far role) then Some role else so_far

-- what a map has for a word
abbrev pub looks_up : HashMap (Bor (List ℕ)) Role RandomState → Word → Option Role
looks_up roles w = get_by (λ k. bytes_eq w k.now) roles

-- these are the roles of hypotheses, and so many of them are $e
pub record AreRoles (hs : List Hypothesis) (roles : Word → Option Role) (premises : ℕ) : Type 0 where
  pub roles_are : (w : Word) → roles w ≡ role_of hs w
  pub premises_are : length (premise_labels hs) ≡ premises
