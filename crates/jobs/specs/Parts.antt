-- Of the code's inside, apart from the rules: what its single functions answer, as parts of what a job prints and of its faults.
use Rattle.std.specs.Prelude.{◌<◌, ℕ}
use Rattle.mmsyntax.specs.Tables.{Contents}
use Rattle.checking.specs.declared.fault.Fault.{Fault}
use Rattle.checking.specs.declared.fault.Fault.TheVariants.{StoreFull, Missing, Held, NoThread, NoMemory}
use Rattle.jobs.specs.declared.running.Plan.{Plan}
use Rattle.jobs.specs.Jobs.{Room, IsRunLack, room_asked}
use Rattle.plaincells.specs.Measures.{all_bodies_length}
use Rattle.transaction.specs.declared.shape.Shape.{Shape}
use Rattle.editing.specs.declared.error.EditError.{EditError}
use Rattle.editing.specs.declared.error.EditError.TheVariants as edit
use Rattle.mmsyntax.specs.declared.limits.TheConstants.{MOST_ASSERTIONS}

-- the room of a run as it is to be done
abbrev pub planned_room : Plan → Room
planned_room plan = room_asked plan.options plan.room

-- how the library of a run lies in words
abbrev pub shape_with : ℕ → ℕ → Shape
shape_with workers room = record { slots = MOST_ASSERTIONS; room = room; sessions = workers }

-- why the library of a database whose proofs check isn't opened
abbrev pub IsOpenFault : Contents → ℕ → Fault → Type 0
IsOpenFault contents room StoreFull = room < all_bodies_length contents.assertions
IsOpenFault contents room NoMemory = Unit {0}
IsOpenFault contents room _ = ⊥

-- nor its scripts run to their end
abbrev pub IsWorkFault : Contents → ℕ → ℕ → Fault → Type 0
IsWorkFault contents workers room StoreFull = room < all_bodies_length contents.assertions
IsWorkFault contents workers room NoMemory = Unit {0}
IsWorkFault contents workers room f = IsRunLack workers f

-- the fault of a run that came to no end
abbrev pub from_edit : EditError → Fault
from_edit edit.NoThread = NoThread
from_edit (edit.Missing n) = Missing n
from_edit (edit.Held c) = Held c
from_edit edit.NoMemory = NoMemory
