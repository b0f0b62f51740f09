-- Of the code's inside, apart from the rules: which labels L.k a library has: a map from L to them.
use Rattle.std.specs.Prelude.{◌≡◌, ℕ, Bool, true, false, List, Option, Some, Vec, IsSome}
use Rattle.std.specs.List.{list_any}
use Rattle.std.specs.Str.{bytes_eq}
use Rattle.std.specs.HashMap.{HashMap, get_by}
use Rattle.std.specs.declared.alloc.Global.{Global}
use Rattle.std.specs.declared.random_state.RandomState.{RandomState}
use Rattle.mmsyntax.specs.Dotted.{is_dotted}
use Rattle.catalog.specs.Places.{Places, place_in}

abbrev pub Trunks : Type 0
Trunks = HashMap (Vec ℕ Global) (Vec (Vec ℕ Global) Global) RandomState

-- the labels that a map lists for L
abbrev pub listed_for : Trunks → List ℕ → Option (Vec (Vec ℕ Global) Global)
listed_for m l = get_by (λ k. bytes_eq l k.items) m

-- whether a list has a label
abbrev pub lists : List (Vec ℕ Global) → List ℕ → Bool
lists labels w = list_any (λ k. bytes_eq k.items w) labels

-- a label stands in the list of L
pub record IsListed (m : Trunks) (l w : List ℕ) : Type 0 where
  pub list : Vec (Vec ℕ Global) Global
  pub at : listed_for m l ≡ Some list
  pub member : lists list.items w ≡ true

-- where it is L.k, it stands in the list of L
abbrev pub IsEntered : Trunks → List ℕ → Type 0
IsEntered m w = (l : List ℕ) → is_dotted l w ≡ true → IsListed m l w

-- each label of the map of places is entered; others may be too
pub record AreTrunks (m : Trunks) (places : Places) : Type 0 where
  pub entered : (w : List ℕ) → IsSome (place_in places w) → IsEntered m w

-- what stood in a list stands there still
pub record KeepsListed (m n : Trunks) : Type 0 where
  pub keeps : (l w : List ℕ) → IsListed m l w → IsListed n l w

-- but for one label
pub record KeepsOthers (m : Trunks) (label : List ℕ) (n : Trunks) : Type 0 where
  pub keeps : (l w : List ℕ) → bytes_eq label w ≡ false → IsListed m l w → IsListed n l w
