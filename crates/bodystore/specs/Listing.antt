-- Of the code's inside, apart from the rules: the slots that steps cite, as they are listed one after another.
use Rattle.std.specs.Prelude.{◌≡◌, ◌↔◌, ℕ, Bool, true, false, List, get_or}
use Rattle.ranges.specs.Ranges.{Has}
use Rattle.bodystore.specs.declared.stored.StoredStep.{StoredStep}
use Rattle.bodystore.specs.declared.stored.StoredStep.TheVariants.{Slot}

-- in both lists are the same slots
abbrev pub AreSameSlots : List ℕ → List ℕ → Type 0
AreSameSlots slots others = (i : ℕ) → Has i slots ↔ Has i others

-- the slots that steps cite, in any order
abbrev pub AreSlotsOf : List StoredStep → List ℕ → Type 0
AreSlotsOf steps slots = (i : ℕ) → Has (Slot i) steps ↔ Has i slots

-- what was seen is listed
abbrev pub AreSeen : List Bool → List ℕ → Type 0
AreSeen seen slots = (i : ℕ) → get_or seen i false ≡ true → Has i slots
