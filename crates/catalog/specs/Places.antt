-- Of the code's inside, apart from the rules: where each label of a library stands: a map from labels to places.
use Rattle.std.specs.Prelude.{◌≡◌, ◌⊎◌, ℕ, false, cond, List, Option, Some, None, Vec, IsSome}
use Rattle.std.specs.Str.{bytes_eq}
use Rattle.std.specs.HashMap.{HashMap, get_by}
use Rattle.std.specs.declared.alloc.Global.{Global}
use Rattle.std.specs.declared.random_state.RandomState.{RandomState}
use Rattle.library.specs.declared.library.Ranked.{Ranked}
use Rattle.library.specs.Library.{label_of}
use Rattle.library.specs.Edits.{has}
use Rattle.catalog.specs.Entries.{Entries, living, StandsIn}

abbrev pub Places : Type 0
Places = HashMap (Vec ℕ Global) ℕ RandomState

-- the place that a map has for a label
abbrev pub place_in : Places → List ℕ → Option ℕ
place_in m w = get_by (λ k. bytes_eq w k.items) m

-- the map has the place of each assertion for its label, so no two have one label; for other labels it may have any place
pub record IsIndex (m : Places) (entries : Entries) : Type 0 where
  pub finds : (p : ℕ) (e : Ranked) → StandsIn entries p e → place_in m (label_of e) ≡ Some p

-- the assertion at a place has the label
pub record StandsAt (entries : Entries) (w : List ℕ) (p : ℕ) : Type 0 where
  pub entry : Ranked
  pub at : StandsIn entries p entry
  pub labelled : label_of entry ≡ w

-- some place has an assertion with the label
abbrev pub StandsSomewhere : Entries → List ℕ → Type 0
StandsSomewhere entries w = (p : ℕ) × StandsAt entries w p

-- each label that the map has is that of an assertion here or there
pub record HasOnly (m : Places) (entries formers : Entries) : Type 0 where
  pub among : (w : List ℕ) → IsSome (place_in m w) → StandsSomewhere entries w ⊎ StandsSomewhere formers w

-- the place of the assertion that has the label, or that none has it
abbrev pub FoundAt : Entries → List ℕ → Option ℕ → Type 0
FoundAt entries w None = has (living entries) w ≡ false
FoundAt entries w (Some p) = StandsAt entries w p

-- n is the map m with a place for a label
abbrev pub Puts : Places → List ℕ → ℕ → Places → Type 0
Puts m w p n = (q : List ℕ) → place_in n q ≡ cond (bytes_eq w q) (Some p) (place_in m q)

-- n has each label that m has
pub record KeepsLabels (m n : Places) : Type 0 where
  pub keeps : (q : List ℕ) → IsSome (place_in m q) → IsSome (place_in n q)
