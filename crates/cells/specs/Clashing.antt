-- Of the code's inside, apart from the rules: how a label stands to the names of slots, and to those of a chain.
use Rattle.std.specs.Prelude.{◌≡◌, ◌≢◌, ◌⊎◌, ℕ, List, true}
use Rattle.mmsyntax.specs.Dotted.{clash}
use Rattle.cells.specs.State.{State}
use Rattle.cells.specs.Slots.{bucket}
use Rattle.cells.specs.Shows.{IsNamed}
use Rattle.cells.specs.Sight.{Sight, ForEachState}
use Rattle.cells.specs.Lookups.{ForEach, TellsAvailability}
use Rattle.cells.specs.declared.labels.Availability.{Availability}
use Rattle.cells.specs.declared.labels.Availability.TheVariants.{Free, Taken, Clashing}

-- a name is in the way of a label: it is the label, or clashes with it and isn't `own`
abbrev pub IsInTheWay : List ℕ → List ℕ → List ℕ → Type 0
IsInTheWay own label name = (name ≡ label) ⊎ ((clash name label ≡ true) × (name ≢ own))

-- how the label stands to the name of the slot
abbrev pub StandsAt : List ℕ → List ℕ → ℕ → State → ℕ → Availability → Type 0
StandsAt own label slots st i Free = (name : List ℕ) → IsNamed slots st i name → IsInTheWay own label name → ⊥
StandsAt own label slots st i Taken = IsNamed slots st i label
StandsAt own label slots st i Clashing = (name : List ℕ) × IsNamed slots st i name × (clash name label ≡ true) × (name ≢ own)

-- so in each state that may be under the run
abbrev pub TellsAvailabilityAt : {O : Type 0} → Sight O → ℕ → List ℕ → List ℕ → Availability → Type 0
TellsAvailabilityAt s i own label standing = ForEachState s (λ st. StandsAt own label s.setting.slots st i standing)

-- no slot has a name of the bucket that is in the way
abbrev pub IsClearIn : ℕ → List ℕ → List ℕ → ℕ → State → Type 0
IsClearIn b own label slots st =
    (i : ℕ) (name : List ℕ) → IsNamed slots st i name → bucket slots name ≡ b → IsInTheWay own label name → ⊥

-- how the label stands to the names of the bucket
abbrev pub TellsAvailabilityIn : {O : Type 0} → Sight O → ℕ → List ℕ → List ℕ → Availability → Type 0
TellsAvailabilityIn s b own label Free = ForEach s (λ st lib. IsClearIn b own label s.setting.slots st)
TellsAvailabilityIn s b own label Taken = TellsAvailability s own label Taken
TellsAvailabilityIn s b own label Clashing = TellsAvailability s own label Clashing
