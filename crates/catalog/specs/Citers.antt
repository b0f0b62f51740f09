-- Of the code's inside, apart from the rules: for each place, the places whose proof may cite the assertion there.
use Rattle.std.specs.Prelude.{◌≡◌, ℕ, true, List, All, Contains, Vec, slice_get, Some}
use Rattle.std.specs.List.Sorted.{IsStrictlyIncreasing}
use Rattle.std.specs.declared.alloc.Global.{Global}
use Rattle.mmsyntax.specs.declared.statement.Step.{Step}
use Rattle.library.specs.declared.library.Ranked.{Ranked}
use Rattle.library.specs.Library.{label_of}
use Rattle.library.specs.Edits.{cites}
use Rattle.catalog.specs.Entries.{Entries, StandsIn}
use Rattle.catalog.specs.Listing.{some_cites}

-- a list of places for each place
abbrev pub Citers : Type 0
Citers = List (Vec ℕ Global)

-- q stands in the list of p
pub record IsCiter (citers : Citers) (p q : ℕ) : Type 0 where
  pub list : Vec ℕ Global
  pub at : slice_get citers p ≡ Some list
  pub member : Contains list.items q

-- each list ascends, so that no place stands in it twice
abbrev pub EachAscends : Citers → Type 0
EachAscends citers = All (λ list. IsStrictlyIncreasing list.items) citers

-- where the proof at q cites the label of the assertion at p, q stands in the list of p; others may stand there too
pub record Covers (citers : Citers) (entries : Entries) : Type 0 where
  pub listed : (p q : ℕ) (e f : Ranked) → StandsIn entries p e → StandsIn entries q f → cites (label_of e) f ≡ true → IsCiter citers p q

-- a place stands in the list of each assertion that the steps cite
pub record AreEntered (citers : Citers) (entries : Entries) (steps : List Step) (q : ℕ) : Type 0 where
  pub entered : (p : ℕ) (e : Ranked) → StandsIn entries p e → some_cites steps (label_of e) ≡ true → IsCiter citers p q

-- what stood in a list stands there still
pub record KeepsCiters (old new : Citers) : Type 0 where
  pub keeps : (p q : ℕ) → IsCiter old p q → IsCiter new p q

-- among these places are all whose proof cites the label
pub record HasAllCiters (entries : Entries) (label : List ℕ) (places : List ℕ) : Type 0 where
  pub all : (q : ℕ) (f : Ranked) → StandsIn entries q f → cites label f ≡ true → Contains places q
