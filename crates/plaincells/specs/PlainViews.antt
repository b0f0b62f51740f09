-- Cells on plain vectors as callers see them: their library's setting, what their run has seen, and the states that they show.
use Rattle.std.specs.Prelude.{◌≡◌, ℕ, List, [], false, length, slice_index}
use Rattle.mmsyntax.specs.Tables.{Tables}
use Rattle.library.specs.declared.library.Ranked.{Ranked}
use Rattle.library.specs.Library.{Setting, Verifies}
use Rattle.ranges.specs.Ranges.{Within, ranges_named}
use Rattle.cells.specs.State.{State}
use Rattle.cells.specs.Slots.{is_ranged}
use Rattle.cells.specs.Shows.{Shows}
use Rattle.cells.specs.Sight.{Sight}
use Rattle.plaincells.specs.Plain.{undone, ranges_in, plain_sight, plain_state}
use Rattle.plaincells.specs.declared.plain.PlainCells.{PlainCells}

abbrev pub cells_setting : PlainCells → Setting
cells_setting c = record { prelude = c.prelude; slots = c.slots }

-- what the run has seen: all ranges, and the cells of its log; all values as they are now are kept aside
abbrev pub cells_sight : PlainCells → Sight (Unit {0})
cells_sight c = plain_sight (cells_setting c) c.room c.values.items c.log.items c.store.items c.ranges.items c.full

-- the state that the values show
abbrev pub now_state : PlainCells → State
now_state c = plain_state c.values.items c.store.items c.ranges.items

-- the state with which the run began
abbrev pub first_state : PlainCells → State
first_state c = plain_state (undone c.values.items c.log.items) c.store.items c.ranges.items

-- of a library without assertions, so far: each cell holds 0, and the store has no word and refused none
abbrev pub AreBlank : Tables → ℕ → ℕ → PlainCells → Type 0
AreBlank prelude slots room made =
    (made.prelude ≡ prelude) × (made.slots ≡ slots) × (made.room ≡ room) × (made.log.items ≡ []) × (made.store.items ≡ [])
    × ((c : ℕ) → slice_index made.values.items c ≡ 0) × (made.full ≡ false)

-- the state of these values, with the ranges of the store that their range cells name
abbrev pub named_state : ℕ → List ℕ → List ℕ → State
named_state slots values store = record { value = slice_index values; ranges = ranges_named (is_ranged slots) store values }

-- with the ranges of the store that their range cells name, the values show a library that verifies
abbrev pub ShowNamed : Setting → List ℕ → List ℕ → Type 0
ShowNamed setting values store =
    (lib : List Ranked) × Shows setting.slots (named_state setting.slots values store) lib × Verifies setting lib

-- of these values and this store, which refused none so far, with nothing read: the ranges that the range cells name are known
pub record AreOfWords (prelude : Tables) (slots : ℕ) (values store : List ℕ) (made : PlainCells) : Type 0 where
  pub prelude_is : made.prelude ≡ prelude
  pub slots_are : made.slots ≡ slots
  pub room_is : made.room ≡ length store
  pub values_are : made.values.items ≡ values
  pub store_is : made.store.items ≡ store
  pub log : made.log.items ≡ []
  pub fresh : made.full ≡ false
  pub known : Within (ranges_named (is_ranged slots) store values) (ranges_in store made.ranges.items)

-- all is as it was, but the log, and whether the store refused words
abbrev pub AreSameButLog : PlainCells → PlainCells → Type 0
AreSameButLog old new =
    (new.values ≡ old.values) × (new.store ≡ old.store) × (new.ranges ≡ old.ranges) × (new.prelude ≡ old.prelude) × (new.slots ≡ old.slots)
    × (new.room ≡ old.room)

-- all is as it was, but the log, the values, and whether the store refused words
abbrev pub AreSameButValues : PlainCells → PlainCells → Type 0
AreSameButValues old new =
    (new.store ≡ old.store) × (new.ranges ≡ old.ranges) × (new.prelude ≡ old.prelude) × (new.slots ≡ old.slots) × (new.room ≡ old.room)
