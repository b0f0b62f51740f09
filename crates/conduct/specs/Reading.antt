-- How the files of an order are read, and what follows of their texts.
use Rattle.std.specs.Prelude.{◌≡◌, ◌⊎◌, ℕ, false, true, List, [], ◌∷◌, ◌++◌, Some, Result, Ok, Err, All, codes, length, slice_get}
use Rattle.conduct.specs.declared.manner.Manner.{Manner}
use Rattle.conduct.specs.declared.reading.Unread.{Unread}
use Rattle.conduct.specs.declared.reading.Unread.TheVariants as unread
use Rattle.conduct.specs.Manner.{is_input_twice, origin, unread_line}
use Rattle.conduct.specs.Telling.{IsMisused, IsSaid}
use Rattle.outside.specs.declared.reason.Reason.{Reason}
use Rattle.outside.specs.declared.trouble.Trouble.{Trouble}
use Rattle.outside.specs.declared.trouble.Trouble.TheVariants as trouble
use Rattle.outside.specs.Events.{Bytes, Event, IsQuiet, reads, says}

-- what these paths stand for, each with the bytes that were read
abbrev pub reads_of : Manner → List Bytes → List Bytes → List Event
reads_of m ps [] = []
reads_of m [] (t ∷ ts) = []
reads_of m (p ∷ ps) (t ∷ ts) = reads (origin m p) (Ok t) ∷ reads_of m ps ts

-- the next is read, and its text is put behind the others; or it can't be; or there is no memory for it
abbrev pub IsReadBehind : {A : Type 0} → Manner → Bytes → List Bytes → List Bytes → List Event → Result A Trouble → Type 0
IsReadBehind m path old new es (Ok done) =
    (text : Bytes) × (new ≡ old ++ text ∷ []) × (es ≡ reads (origin m path) (Ok text) ∷ [])
IsReadBehind m path old new es (Err (trouble.Refused why)) = (new ≡ old) × (es ≡ reads (origin m path) (Err why) ∷ [])
IsReadBehind m path old new es (Err trouble.NoMemory) = All IsQuiet es

-- those before one that can't be read are read; or memory ran out
abbrev pub IsStopped : Manner → List Bytes → List Bytes → List Event → Unread → Type 0
IsStopped m paths texts es (unread.File path why) = (slice_get paths (length texts) ≡ Some path.now)
    × (es ≡ reads_of m paths texts ++ reads (origin m path.now) (Err why) ∷ [])
IsStopped m paths texts es unread.NoMemory = All IsQuiet es

-- all are read in their order, or not
abbrev pub AreRead : {A : Type 0} → Manner → List Bytes → List Bytes → List Event → Result A Unread → Type 0
AreRead m paths texts es (Ok done) = (length texts ≡ length paths) × (es ≡ reads_of m paths texts)
AreRead m paths texts es (Err u) = IsStopped m paths texts es u

-- more than one path stands for the standard input, which is said, and nothing is read; or this follows
abbrev pub IsInputOnceThen : List Bytes → (List Event → ℕ → Type 0) → List Event → ℕ → Type 0
IsInputOnceThen paths P es status =
    ((is_input_twice paths ≡ true) × IsMisused (codes "- stands for the standard input, which is read once") es status)
    ⊎ ((is_input_twice paths ≡ false) × P es status)

-- the line of a path that can't be read
abbrev pub line_unread : Manner → Bytes → Reason → Bytes
line_unread m path why = path ++ (codes ": " ++ unread_line m why)

-- one can't be read, and none behind it is: it is said which, and why, and the status is 1
abbrev pub IsUnread : Manner → List Bytes → List Event → ℕ → Type 0
IsUnread m paths es status =
    (texts : List Bytes) × (path : Bytes) × (why : Reason) × (slice_get paths (length texts) ≡ Some path)
    × (es ≡ reads_of m paths texts ++ (reads (origin m path) (Err why) ∷ says (line_unread m path why) ∷ [])) × (status ≡ 1)

-- it is said which can't be read; where memory ran out for one, nothing is said yet
abbrev pub IsUnreadTold : {E : Type 0} → Manner → Unread → List Event → Result ℕ E → Type 0
IsUnreadTold m (unread.File path why) es (Ok status) = IsSaid (line_unread m path.now why) es status
IsUnreadTold m (unread.File path why) es (Err e) = ⊥
IsUnreadTold m unread.NoMemory es (Ok status) = ⊥
IsUnreadTold m unread.NoMemory es (Err e) = es ≡ []

-- one can't be read; or all are read, in their order, before anything else is done, and then this follows of their texts
abbrev pub AreReadThen : Manner → List Bytes → (List Bytes → List Event → ℕ → Type 0) → List Event → ℕ → Type 0
AreReadThen m paths P es status =
    IsUnread m paths es status
    ⊎ ((texts : List Bytes) × (rest : List Event) × (length texts ≡ length paths) × (es ≡ reads_of m paths texts ++ rest)
    × P texts rest status)

-- the one can't be read, which is said, and the status is 1; or it is read, and then this follows of its bytes
abbrev pub IsReadThen : Manner → Bytes → (Bytes → List Event → ℕ → Type 0) → List Event → ℕ → Type 0
IsReadThen m path P es status =
    ((why : Reason) × (es ≡ reads (origin m path) (Err why) ∷ says (line_unread m path why) ∷ []) × (status ≡ 1))
    ⊎ ((source : Bytes) × (rest : List Event) × (es ≡ reads (origin m path) (Ok source) ∷ rest) × P source rest status)
