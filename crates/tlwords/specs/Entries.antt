-- Of the code's inside, apart from the rules: what is kept of the cells, as a list of those that were read, and the
-- places of their entries in it.
use Rattle.std.specs.Prelude.{◌≡◌, ℕ, zero, suc, ◌<◌, Bool, true, false, Option, Some, None, List, [], ◌∷◌, ◌++◌, length, slice_get, map}
use Rattle.tlwords.specs.declared.log.Touched.{Touched}
use Rattle.tlwords.specs.declared.log.Slot.{Slot}
use Rattle.tlwords.specs.declared.slots.Entry.{Entry}

abbrev pub blank : Slot
blank = record { word = None; kept = None }

abbrev pub slot_of : Entry → Slot
slot_of e = record { word = Some e.word; kept = e.kept }

abbrev pub slot_in : Option Entry → Slot
slot_in None = blank
slot_in (Some e) = slot_of e

-- a place is one more than the index of an entry, or 0 for a cell that has none
abbrev pub slot_at : List Entry → ℕ → Slot
slot_at entries zero = blank
slot_at entries (suc k) = slot_in (slice_get entries k)

-- the slots of the cells with these places
abbrev pub slots_of : List ℕ → List Entry → List Slot
slots_of places entries = map (slot_at entries) places

-- how many cells have an entry
abbrev pub count_placed : List ℕ → ℕ
count_placed [] = 0
count_placed (zero ∷ ps) = count_placed ps
count_placed (suc k ∷ ps) = suc (count_placed ps)

-- each entry stands at the place of its cell, and no other cell has that place
pub record IsIndexed (places : List ℕ) (entries : List Entry) : Type 0 where
  pub each : (k : ℕ) (e : Entry) → slice_get entries k ≡ Some e → slice_get places e.cell ≡ Some (suc k)
  pub placed : (c k : ℕ) → slice_get places c ≡ Some (suc k) → (e : Entry) × (slice_get entries k ≡ Some e) × (e.cell ≡ c)
  pub count : count_placed places ≡ length entries

-- ---- steps on the entries

-- the entry with no value kept aside
abbrev pub unwritten : Entry → Entry
unwritten e = record e { kept = None }

-- no cell has a place any more
abbrev pub IsWiped : List ℕ → List ℕ → Type 0
IsWiped places after = (length after ≡ length places) × ((c : ℕ) → c < length after → slice_get after c ≡ Some 0)

-- e as the cell of a step, before the others, if it is to be written or not, as `kept` says
abbrev pub pick : Bool → Entry → Option ℕ → List Touched
pick true e None = []
pick true e (Some v) = record { cell = e.cell; word = e.word; value = v } ∷ []
pick false e None = record { cell = e.cell; word = e.word; value = 0 } ∷ []
pick false e (Some v) = []

-- the cells that are to be written or not, as `kept` says, in the order of their first reads
abbrev pub picked : Bool → List Entry → List Touched
picked kept [] = []
picked kept (e ∷ es) = pick kept e e.kept ++ picked kept es
