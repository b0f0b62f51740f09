-- What opening a database in plain cells gives, and when it is refused.
use Rattle.std.specs.Prelude.{◌≡◌, ◌<◌, ◌≤◌, ℕ, suc, List, [], ◌∷◌, false, length, take}
use Rattle.mmsyntax.specs.Tables.{Contents}
use Rattle.library.specs.declared.library.Ranked.{Ranked}
use Rattle.library.specs.Library.{opening}
use Rattle.plaincells.specs.declared.opening.OpenError.{OpenError}
use Rattle.plaincells.specs.declared.opening.OpenError.TheVariants.{TooMany, StoreFull, NoMemory}
use Rattle.plaincells.specs.declared.plain.PlainCells.{PlainCells}
use Rattle.plaincells.specs.PlainViews.{now_state}
use Rattle.plaincells.specs.Measures.{all_bodies_length}
use Rattle.cells.specs.Shows.{Held, ShowsHeld}

-- assertions, each in the slot of its place: the slots from i on, in order
abbrev pub held_from : ℕ → List Ranked → List Held
held_from i [] = []
held_from i (e ∷ es) = record { slot = i; entry = e } ∷ held_from (suc i) es

-- the cells show the opening library, the first assertion in the slot 0, the next in the slot 1, and so on; a run begins, which has read
-- nothing so far, and to which the store refused nothing
pub record CellsOpen (db : Contents) (slots room : ℕ) (made : PlainCells) : Type 0 where
  pub prelude : made.prelude ≡ db.prelude
  pub slots_are : made.slots ≡ slots
  pub room_is : made.room ≡ room
  pub kept : made.log.items ≡ []
  pub fresh : made.full ≡ false
  pub shows : ShowsHeld slots (now_state made) (opening db) (held_from 0 (opening db))

-- the prelude, with the first so many assertions
abbrev pub front : ℕ → Contents → Contents
front k db = record db { assertions = take k db.assertions }

-- more assertions than slots; or bodies of more words than the room
abbrev pub CellsRefuse : Contents → ℕ → ℕ → OpenError → Type 0
CellsRefuse db slots room TooMany = slots < length db.assertions
CellsRefuse db slots room StoreFull = (length db.assertions ≤ slots) × (room < all_bodies_length db.assertions)
CellsRefuse db slots room NoMemory = (length db.assertions ≤ slots) × (all_bodies_length db.assertions ≤ room)
