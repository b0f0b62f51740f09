-- For which cells calls keep values aside.
use Rattle.std.specs.Prelude.{◌≡◌, ◌<◌, ◌≤◌, ◌⊎◌, ℕ, ◌+◌, ◌*◌, List}
use Rattle.ranges.specs.Ranges.{Has}
use Rattle.bodystore.specs.declared.stored.StoredStep.{StoredStep}
use Rattle.bodystore.specs.declared.stored.StoredStep.TheVariants.{Slot}
use Rattle.cells.specs.State.{State}
use Rattle.cells.specs.Slots.{citers_cell, bucket_cell, next_cell, bucket}
use Rattle.cells.specs.Sight.{Sight, WasWritten}

-- a value is kept aside for no cell but those for which one was before, and those of which this is so
abbrev pub KeepsAside : {O : Type 0} → (ℕ → Type 0) → Sight O → Sight O → Type 0
KeepsAside such old new = (c : ℕ) → WasWritten new c → WasWritten old c ⊎ such c

-- one of the five cells of the slot
abbrev pub IsOfSlot : ℕ → ℕ → Type 0
IsOfSlot i c = (5 * i ≤ c) × (c < 5 * i + 5)

-- the citers cell of one of these slots
abbrev pub IsCitersOf : List ℕ → ℕ → Type 0
IsCitersOf listed c = (j : ℕ) × Has j listed × (c ≡ citers_cell j)

-- the citers cell of a slot that the steps cite
abbrev pub IsCitersOfCited : List StoredStep → ℕ → Type 0
IsCitersOfCited kept c = (j : ℕ) × Has (Slot j) kept × (c ≡ citers_cell j)

-- where a slot comes to the front of the chain of a label's bucket: the cell of the bucket, or the next cell of the slot
abbrev pub IsOfFront : ℕ → ℕ → List ℕ → ℕ → Type 0
IsOfFront slots i label c = (c ≡ bucket_cell slots (bucket slots label)) ⊎ (c ≡ next_cell slots i)

-- where a slot goes out of its chain: the cell of the bucket or of the slot before that leads to it, or its own next cell
abbrev pub IsOfLeaving : ℕ → State → ℕ → ℕ → Type 0
IsOfLeaving slots st i c = ((5 * slots ≤ c) × (st.value c ≡ i + 1)) ⊎ (c ≡ next_cell slots i)
