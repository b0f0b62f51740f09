-- What opening a library in running words gives, and when it is refused.
use Rattle.std.specs.Prelude.{◌≡◌, ◌≢◌, ◌<◌, ◌≤◌, ◌^◌, Some, false, List, [], length, All, Result, Ok, Err, map, Vec}
use Rattle.std.specs.declared.alloc.Global.{Global}
use Rattle.std.specs.FinMap.{empty}
use Rattle.mmsyntax.specs.Tables.{Tables, Contents}
use Rattle.derivation.specs.declared.fault.ProofFaultKind.TheVariants as fault
use Rattle.derivation.specs.Databases.{AllCheck, IsFirstFault}
use Rattle.ranges.specs.Ranges.{ranges_named}
use Rattle.cells.specs.Slots.{is_ranged}
use Rattle.plaincells.specs.declared.opening.OpenError.{OpenError as CellsError}
use Rattle.plaincells.specs.declared.opening.OpenError.TheVariants as cells
use Rattle.plaincells.specs.Measures.{all_bodies_length}
use Rattle.tlwords.specs.Known.{Known}
use Rattle.tlwords.specs.Calls.{new_pass}
use Rattle.tlwords.specs.Runs.{down}
use Rattle.lawful.specs.declared.notes.Given.{Given}
use Rattle.lawful.specs.declared.notes.Note.{Note}
use Rattle.lawful.specs.Lawful.{OpensWell}
use Rattle.transaction.specs.declared.shape.Shape.{Shape}
use Rattle.transaction.specs.declared.shape.OpenError.{OpenError}
use Rattle.transaction.specs.declared.shape.OpenError.TheVariants.{BadShape, TooMany, ProofFails, StoreFull, NoMemory}
use Rattle.transaction.specs.Members.{Home, Member, IsSoundMember}
use Rattle.mmsyntax.specs.declared.limits.TheConstants.{MOST_ASSERTIONS}

-- 1 to 4,096 slots, a room of at most 2^24 words, and 1 to 64 sessions
pub record IsShape (shape : Shape) : Type 0 where
  pub some_slots : 1 ≤ shape.slots
  pub few_slots : shape.slots ≤ MOST_ASSERTIONS
  pub room : shape.room ≤ 2 ^ 24
  pub some_sessions : 1 ≤ shape.sessions
  pub few_sessions : shape.sessions ≤ 64

-- a session of the library that has seen nothing but the ranges of the opening, and has done nothing
pub record IsNewSession (home : Home) (m : Member) : Type 0 where
  pub given : m.given ≡ home.given
  pub known : m.known ≡ new_pass home.words (ranges_named (is_ranged home.given.slots) home.store home.words.base) m.known.name
  pub records : m.records ≡ []
  pub stands : IsSoundMember m

-- the library is that of the database, which the opening words show and which verifies; and it has as many new sessions as the shape says
pub record IsOpened (db : Contents) (shape : Shape) (home : Home) (members : List Member) : Type 0 where
  pub shape_is : IsShape shape
  pub many : length db.assertions ≤ shape.slots
  pub checks : AllCheck db
  pub fit : all_bodies_length db.assertions ≤ shape.room
  pub database : home.given.database.value ≡ db
  pub slots : home.given.slots ≡ shape.slots
  pub room : home.words.room ≡ shape.room
  pub sessions : home.sessions ≡ shape.sessions
  pub opens : OpensWell home.given (ranges_named (is_ranged home.given.slots) home.store home.words.base) home.words.base
  pub new : All (IsNewSession home) members
  -- as many as the shape says, each with a name of its own
  pub names : map (λ m. m.known.name) members ≡ down shape.sessions shape.sessions

-- the first of these that is so: no such shape, more assertions than slots, a proof with a fault, bodies that exceed the room. Want of
-- memory may be answered of a shape whose assertions are no more than the slots
abbrev pub Refuses : Contents → Shape → OpenError → Type 0
Refuses db shape BadShape = IsShape shape → ⊥
Refuses db shape TooMany = IsShape shape × (shape.slots < length db.assertions)
Refuses db shape (ProofFails index found) =
    IsShape shape × (length db.assertions ≤ shape.slots) × (found.kind ≢ fault.NoMemory) × IsFirstFault db index found
Refuses db shape StoreFull =
    IsShape shape × (length db.assertions ≤ shape.slots) × AllCheck db × (shape.room < all_bodies_length db.assertions)
Refuses db shape NoMemory = IsShape shape × (length db.assertions ≤ shape.slots)

abbrev pub LibraryOpens : Contents → Shape → Result (Home × Vec Member Global) OpenError → Type 0
LibraryOpens db shape (Ok made) = IsOpened db shape made.0 made.1.items
LibraryOpens db shape (Err error) = Refuses db shape error

-- ---- what is so of an open library at all times

-- the prelude is the database's, the words are opened for it, within the limits, and its opening library verifies
pub record IsLibraryOf (prelude : Tables) (home : Home) : Type 0 where
  pub prelude_is : prelude ≡ home.given.database.value.prelude
  pub setting : home.words.setting ≡ Some home.given
  pub room : home.words.room ≤ 2 ^ 24

-- ---- the steps of an opening

-- why the check of all proofs ends early
abbrev pub Faults : Contents → OpenError → Type 0
Faults db (ProofFails index found) = (found.kind ≢ fault.NoMemory) × IsFirstFault db index found
Faults db NoMemory = Unit {0}
Faults db _ = ⊥

-- the session of a pass
abbrev pub seated : Given → Known Given Note → Member
seated g k = record { given = g; known = k; records = []; staged = empty; lacked_room = false }

-- a session of each pass, in order
abbrev pub AreSeated : Given → List (Known Given Note) → List Member → Type 0
AreSeated g passes members = members ≡ map (seated g) passes

-- the error of an opening whose cells are not opened
abbrev pub from_cells : CellsError → OpenError
from_cells cells.TooMany = TooMany
from_cells cells.StoreFull = StoreFull
from_cells cells.NoMemory = NoMemory
