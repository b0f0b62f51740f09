-- What is done for an order to edit.
use Rattle.std.specs.Prelude.{◌≡◌, ◌⊎◌, ℕ, Bool, true, false, List, [], ◌∷◌, ◌++◌, Option, Some, None, Result, Ok, Err, All, codes}
use Rattle.std.specs.Prelude.{if◌then◌else◌, is_some, length, slice_get}
use Rattle.std.specs.Borrow.{Bor}
use Rattle.commandline.specs.declared.edit_order.Allowed.{Allowed}
use Rattle.commandline.specs.declared.edit_order.Destination.{Destination}
use Rattle.commandline.specs.declared.edit_order.Destination.TheVariants as place
use Rattle.commandline.specs.declared.edit_order.Outputs.{Outputs}
use Rattle.conduct.specs.declared.manner.Manner.TheVariants.{Full}
use Rattle.conduct.specs.Manner.{is_input, is_input_twice, origin}
use Rattle.conduct.specs.Reading.{reads_of}
use Rattle.conduct.specs.Clashes.{clashes_with}
use Rattle.conduct.specs.Comparing.{AreApartThen, Clash}
use Rattle.conduct.specs.Telling.{IsMisused}
use Rattle.edittext.specs.Answers.{IsEditAnswer}
use Rattle.edittext.specs.Edited.{edit_room}
use Rattle.edittext.specs.declared.answering.Told.{Told as Edited}
use Rattle.outside.specs.declared.reason.Reason.{Reason}
use Rattle.outside.specs.Events.{Bytes, Event, IsQuiet, asks, reads}
use Rattle.program.specs.Endings.{IsEditTold, IsFiled, IsNotDoneTold, line_of, reason_of, replies_path, said_of}
use Rattle.program.specs.declared.ending.NotDone.{NotDone}
use Rattle.program.specs.declared.ending.NotDone.TheVariants as not_done

-- ---- files that would be written over

-- the edited source goes to a file
abbrev pub file_of : Destination → Option Bytes
file_of (place.File path) = Some path.now
file_of _ = None

-- or in place of the source
abbrev pub source_in : Destination → Bytes → Option Bytes
source_in place.Source source = Some source
source_in _ source = None

abbrev pub listed : Option Bytes → List Bytes
listed (Some path) = path ∷ []
listed None = []

-- the line of a file that would be
abbrev pub clash_line : Bytes → Bytes → Bytes
clash_line text path = path ++ (codes ": " ++ text)

-- what goes to a path, if something does, and these files
abbrev pub clashes_if : Option Bytes → Bytes → List Bytes → List Clash
clashes_if (Some written) text others = clashes_with written (clash_line text) others
clashes_if None text others = []

-- neither the edited source nor what became of the transactions goes to a file that is read, but the source in its own place, nor both to
-- one
abbrev pub clashes : Outputs → List Bytes → List Clash
clashes o (source ∷ scripts) =
    clashes_if (file_of o.place) (codes "--output would be written over it") (source ∷ scripts)
    ++ (clashes_if (source_in o.place source) (codes "SOURCE would be written over it") scripts
    ++ (clashes_if (replies_path o) (codes "--replies would be written over it") (source ∷ scripts)
    ++ clashes_if (replies_path o) (codes "--replies would be written over it") (listed (file_of o.place))))
clashes o [] = []

-- ---- before the texts are known

-- it is asked of the source whether it is a plain file, where it is to be put in place
abbrev pub IsAsked : Destination → Bytes → List Event → Bool → Type 0
IsAsked place.Source source es plain = es ≡ asks source plain ∷ []
IsAsked _ source es plain = (es ≡ []) × (plain ≡ true)

-- all files are read, in their order
abbrev pub AreAllRead : List Bytes → List Bytes → List Event → Type 0
AreAllRead paths texts es = (length texts ≡ length paths) × (es ≡ reads_of Full paths texts)

-- they are up to one that can't be
abbrev pub AreReadUpTo : List Bytes → Bytes → Reason → List Event → Type 0
AreReadUpTo paths path why es = (texts : List Bytes) × (slice_get paths (length texts) ≡ Some path)
    × (es ≡ reads_of Full paths texts ++ reads (origin Full path) (Err why) ∷ [])

-- ---- the answer

-- what is answered, for a source in the first of the files, and scripts in the others
abbrev pub IsAnsweredFor : List Bytes → ℕ → Option ℕ → Outputs → Allowed → List Bytes → Edited → Type 0
IsAnsweredFor (path ∷ scripts) workers room o allowed (source ∷ texts) told =
    IsEditAnswer path (path ∷ scripts) source texts workers (edit_room room) allowed.force allowed.partial (is_some o.replies) told
IsAnsweredFor _ workers room o allowed _ told = ⊥

-- the files are read, and then the scripts edit the source; or why that isn't done: a file can't be read, the system gives no random
-- numbers, or memory runs out before anything is written, printed or said
abbrev pub IsReadConcluded : Bool → List Bytes → ℕ → Option ℕ → Outputs → Allowed → List Event → Result Edited NotDone → Type 0
IsReadConcluded keyed paths workers room o allowed es (Ok told) =
    (texts : List Bytes) × AreAllRead paths texts es × IsAnsweredFor paths workers room o allowed texts told
IsReadConcluded keyed paths workers room o allowed es (Err (not_done.Unread path why)) = AreReadUpTo paths path.now why es
IsReadConcluded keyed paths workers room o allowed es (Err not_done.Unkeyed) =
    (keyed ≡ false) × (texts : List Bytes) × AreAllRead paths texts es
IsReadConcluded keyed paths workers room o allowed es (Err not_done.NoMemory) = All IsQuiet es
IsReadConcluded keyed paths workers room o allowed es (Err (not_done.NotPlain path)) = ⊥

-- the source can be put where it is to go, and then so it goes; or it can't
abbrev pub IsConcluded : Bool → List Bytes → ℕ → Option ℕ → Outputs → Allowed → List Event → Result Edited NotDone → Type 0
IsConcluded keyed [] workers room o allowed es c = ⊥
IsConcluded keyed (source ∷ scripts) workers room o allowed es c =
    ((path : Bor Bytes) × (c ≡ Err (not_done.NotPlain path)) × (path.now ≡ source) × IsAsked o.place source es false)
    ⊎ ((asked : List Event) × (rest : List Event) × (es ≡ asked ++ rest) × IsAsked o.place source asked true
    × IsReadConcluded keyed (source ∷ scripts) workers room o allowed rest c)

-- the answer is told, or why there is none
abbrev pub IsConclusionTold : Outputs → Result Edited NotDone → List Bytes → List Event → ℕ → Type 0
IsConclusionTold o (Ok told) (source ∷ scripts) es status = IsEditTold o source told es status
IsConclusionTold o (Ok told) [] es status = ⊥
IsConclusionTold o (Err why) paths es status = IsNotDoneTold (replies_path o) (said_of why) (reason_of why) (line_of why) es status

abbrev pub IsEditFollowed : Bool → List Bytes → ℕ → Option ℕ → Outputs → Allowed → List Event → ℕ → Type 0
IsEditFollowed keyed paths workers room o allowed es status =
    (front : List Event) × (rest : List Event) × (c : Result Edited NotDone) × (es ≡ front ++ rest)
    × IsConcluded keyed paths workers room o allowed front c × IsConclusionTold o c paths rest status

-- ---- all of it

-- before anything is read, the file for what became of the transactions is emptied, if there is one; or that can't be done, which is said
abbrev pub IsEmptied : Option Bytes → List Event → Bool → Type 0
IsEmptied None es done = (es ≡ []) × (done ≡ true)
IsEmptied (Some path) es done = IsFiled path [] es done

-- so it is, and then this follows; or it isn't, and the status is 1
abbrev pub IsEmptiedThen : Option Bytes → (List Event → ℕ → Type 0) → List Event → ℕ → Type 0
IsEmptiedThen path P es status =
    (IsEmptied path es false × (status ≡ 1))
    ⊎ ((emptied : List Event) × (rest : List Event) × (es ≡ emptied ++ rest) × IsEmptied path emptied true × P rest status)

-- the source is edited, unless something would be written over
abbrev pub IsEditedApart : Bool → List Bytes → ℕ → Option ℕ → Outputs → Allowed → List Event → ℕ → Type 0
IsEditedApart keyed paths workers room o allowed es status =
    AreApartThen (clashes o paths) (IsEmptiedThen (replies_path o) (IsEditFollowed keyed paths workers room o allowed)) es status

-- the source is to be put in place, and is the standard input
abbrev pub is_input_in_place : Destination → List Bytes → Bool
is_input_in_place place.Source (source ∷ scripts) = is_input source
is_input_in_place place.Source [] = false
is_input_in_place place.Printed paths = false
is_input_in_place (place.File path) paths = false

-- what is said of words that don't go together
abbrev pub misuse_of : Destination → List Bytes → Option Bytes
misuse_of place paths = if is_input_in_place place paths then Some (codes "--in-place and - do not go together")
    else (if is_input_twice paths then Some (codes "- stands for the standard input, which is read once") else None)

-- the words go together, and so it goes; or they don't, which is said, and no file is read
abbrev pub IsUnmisusedThen : Option Bytes → (List Event → ℕ → Type 0) → List Event → ℕ → Type 0
IsUnmisusedThen (Some line) P es status = IsMisused line es status
IsUnmisusedThen None P es status = P es status

-- all of it; or the source is to go to two places
abbrev pub IsEditDone : Bool → List Bytes → ℕ → Option ℕ → Option Outputs → Allowed → List Event → ℕ → Type 0
IsEditDone keyed paths workers room (Some o) allowed es status =
    IsUnmisusedThen (misuse_of o.place paths) (IsEditedApart keyed paths workers room o allowed) es status
IsEditDone keyed paths workers room None allowed es status = IsMisused (codes "--in-place and --output do not go together") es status
