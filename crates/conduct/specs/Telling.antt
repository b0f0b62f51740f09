-- How a line is said, or a text printed, and the status with it.
use Rattle.std.specs.Prelude.{◌≡◌, ◌⊎◌, ℕ, Bool, false, List, [], ◌∷◌, ◌++◌, Option, Some, None, codes}
use Rattle.conduct.specs.declared.manner.Manner.{Manner}
use Rattle.conduct.specs.declared.manner.Manner.TheVariants.{Short, Full}
use Rattle.conduct.specs.Manner.{unwritten_line}
use Rattle.outside.specs.declared.reason.Reason.{Reason}
use Rattle.outside.specs.declared.reason.Reason.TheVariants.{ClosedPipe}
use Rattle.outside.specs.declared.trouble.Trouble.{Trouble}
use Rattle.outside.specs.declared.trouble.Trouble.TheVariants as trouble
use Rattle.outside.specs.Events.{Bytes, Event, leaving, prints, says}

-- the line is said, alone, and the status is this
abbrev pub IsSaidWith : ℕ → Bytes → List Event → ℕ → Type 0
IsSaidWith well line es status = (es ≡ says line ∷ []) × (status ≡ well)

-- and it is 1
abbrev pub IsSaid : Bytes → List Event → ℕ → Type 0
IsSaid line es status = IsSaidWith 1 line es status

-- the words of the command line don't go together, which is said
abbrev pub IsMisused : Bytes → List Event → ℕ → Type 0
IsMisused line es status = IsSaidWith 2 line es status

-- the system gave no random numbers for keys, which is said
abbrev pub IsUnkeyed : Bool → List Event → ℕ → Type 0
IsUnkeyed keyed es status = (keyed ≡ false) × IsSaid (codes "no random numbers") es status

-- what is said where a text can't be printed: nothing of a closed pipe, as the tools of a shell do
abbrev pub unprinted_said : Manner → Reason → List Event
unprinted_said Full ClosedPipe = []
unprinted_said m why = says (unwritten_line m why) ∷ []

-- and the status: of a closed pipe the one that a shell has for a program that SIGPIPE ended (POSIX.1-2017, "Shell Command Language",
-- 2.8.2)
abbrev pub unprinted_status : Manner → Reason → ℕ
unprinted_status Full ClosedPipe = 141
unprinted_status m why = 1

-- the text is printed, and the status is this; or it can't be, which is said
abbrev pub IsPrintedWith : Manner → ℕ → Bytes → List Event → ℕ → Type 0
IsPrintedWith m well out es status =
    ((es ≡ prints out None ∷ []) × (status ≡ well))
    ⊎ ((why : Reason) × (es ≡ prints out (Some why) ∷ unprinted_said m why) × (status ≡ unprinted_status m why))

-- the text is printed, and the status is 0; or it can't be
abbrev pub IsPrinted : Manner → Bytes → List Event → ℕ → Type 0
IsPrinted m out es status = IsPrintedWith m 0 out es status

-- why a text isn't in the file at a path
abbrev pub trouble_line : Manner → Bytes → Trouble → Bytes
trouble_line m path (trouble.Refused why) = path ++ (codes ": " ++ unwritten_line m why)
trouble_line m path trouble.NoMemory = codes "no memory"

-- a new file is left that was made for it, which is said
abbrev pub left_said : Option Bytes → List Event
left_said (Some path) = says (path ++ codes ": cannot be removed") ∷ []
left_said None = []

-- a text isn't in the file at a path, for this trouble, which is said, and which new file is left, if one is: the status is 1
pub record IsUnwrittenTold (m : Manner) (path : Bytes) (why : Trouble) (es : List Event) (status : ℕ) : Type 0 where
  pub left : Option Bytes
  pub said : es ≡ leaving left ++ (says (trouble_line m path why) ∷ left_said left)
  pub failed : status ≡ 1
