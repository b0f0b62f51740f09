-- What was read, and what stands on the standard output and error, where a program did these things.
use Rattle.std.specs.Prelude.{◌≡◌, ◌⊎◌, ℕ, Bool, true, false, List, [], ◌∷◌, ◌++◌, Option, Some, None, Ok, Err, IfSome, take, codes}
use Rattle.std.specs.declared.io.ErrorKind.{ErrorKind}
use Rattle.outside.specs.declared.reason.Reason.{Reason}
use Rattle.outside.specs.declared.trouble.Trouble.TheVariants as trouble
use Rattle.outside.specs.Events.{Bytes, Event, reads, lacks, compares, asks, writes, replaces, leaves, notes, prints, says, shows}
use Rattle.outside.specs.Reasons.{reason_by}
use Rattle.outside.specs.Troubles.{IsAnsweredBy}
use Rattle.outside.specs.declared.whole.TheConstants.{MOST_READ}

-- ---- on the standard output

-- a text; or a front of it, where it isn't whole, since a write failed, for an error with this reason
abbrev pub IsPut : (ErrorKind → Type 0) → Bytes → Option Reason → Bytes → Type 0
IsPut failed text None here = here ≡ text
IsPut failed text (Some why) here =
    (kind : ErrorKind) × failed kind × (why ≡ reason_by kind) × (many : ℕ) × (here ≡ take many text)

-- what one thing puts there; of what the parser of command lines shows it isn't known
abbrev pub PutsOut : (ErrorKind → Type 0) → Event → Bytes → Type 0
PutsOut failed (reads path got) here = here ≡ []
PutsOut failed (lacks path) here = here ≡ []
PutsOut failed (compares one other same) here = here ≡ []
PutsOut failed (asks path plain) here = here ≡ []
PutsOut failed (writes path text why) here = here ≡ []
PutsOut failed (replaces path text why) here = here ≡ []
PutsOut failed (leaves path) here = here ≡ []
PutsOut failed (prints text why) here = IsPut failed text why here
PutsOut failed (says line) here = here ≡ []
PutsOut failed (notes line) here = here ≡ []
PutsOut failed (shows error why) here = Unit {0}

-- ---- on the standard error

-- a line, and its end; or a front of that, since a write failed
abbrev pub IsLine : (ErrorKind → Type 0) → Bytes → Bytes → Type 0
IsLine failed line here =
    (here ≡ line ++ codes "\n") ⊎ ((kind : ErrorKind) × failed kind × (many : ℕ) × (here ≡ take many (line ++ codes "\n")))

-- such a line where the stream is a terminal, as that tells, and nothing where it is none
abbrev pub IsNote : (ErrorKind → Type 0) → (Bool → Type 0) → Bytes → Bytes → Type 0
IsNote failed tells_terminal line here = (tells_terminal true × IsLine failed line here) ⊎ (tells_terminal false × (here ≡ []))

abbrev pub PutsErr : (ErrorKind → Type 0) → (Bool → Type 0) → Event → Bytes → Type 0
PutsErr failed tells_terminal (reads path got) here = here ≡ []
PutsErr failed tells_terminal (lacks path) here = here ≡ []
PutsErr failed tells_terminal (compares one other same) here = here ≡ []
PutsErr failed tells_terminal (asks path plain) here = here ≡ []
PutsErr failed tells_terminal (writes path text why) here = here ≡ []
PutsErr failed tells_terminal (replaces path text why) here = here ≡ []
PutsErr failed tells_terminal (leaves path) here = here ≡ []
PutsErr failed tells_terminal (prints text why) here = here ≡ []
PutsErr failed tells_terminal (says line) here = IsLine failed line here
PutsErr failed tells_terminal (notes line) here = IsNote failed tells_terminal line here
PutsErr failed tells_terminal (shows error why) here = Unit {0}

-- ---- on either

-- what all of them put there stands there, one behind the other
abbrev pub Stands : (Event → Bytes → Type 0) → List Event → Bytes → Type 0
Stands puts [] held = held ≡ []
Stands puts (e ∷ es) held = (here : Bytes) × (rest : Bytes) × puts e here × Stands puts es rest × (held ≡ here ++ rest)

-- the parser of command lines was not shown
abbrev pub IsOwn : Event → Type 0
IsOwn (reads path got) = Unit {0}
IsOwn (lacks path) = Unit {0}
IsOwn (compares one other same) = Unit {0}
IsOwn (asks path plain) = Unit {0}
IsOwn (writes path text why) = Unit {0}
IsOwn (replaces path text why) = Unit {0}
IsOwn (leaves path) = Unit {0}
IsOwn (prints text why) = Unit {0}
IsOwn (says line) = Unit {0}
IsOwn (notes line) = Unit {0}
IsOwn (shows error why) = ⊥

abbrev pub AreOwn : List Event → Type 0
AreOwn [] = Unit {0}
AreOwn (e ∷ es) = IsOwn e × AreOwn es

-- a stream that tells what it holds, and held nothing before, holds just what these put there, unless the parser was shown
abbrev pub IsOn : (Event → Bytes → Type 0) → Option Bytes → List Event → Type 0
IsOn puts known es = AreOwn es → (held : Bytes) × (known ≡ Some held) × Stands puts es held

-- ---- all of it

-- what the files and the streams tell: what is known of files, which of them the system refuses, by which kind of error, what it answers on
-- two paths, and on one, what the standard input has, where that is known, and by which kind of error it is refused, what stands on either
-- stream, and by which kind of error a write on it failed; and whether the standard error is a terminal
pub record Outside : Type 1 where
  pub holds : Bytes → Option Bytes
  pub refuses : Bytes → ErrorKind → Type 0
  pub tells_one : Bytes → Bytes → Bool → Type 0
  pub tells_plain : Bytes → Bool → Type 0
  pub input : Option Bytes
  pub input_refuses : ErrorKind → Type 0
  pub out : Option Bytes
  pub out_failed : ErrorKind → Type 0
  pub err : Option Bytes
  pub err_failed : ErrorKind → Type 0
  pub tells_terminal : Bool → Type 0

-- a text that was read is all that its file holds, up to one byte more than any text may have, where that is known; a file that wasn't read
-- is one that the system refuses, for that reason; so it is with the standard input; two paths lead to one file where they are equal, or
-- the system tells so, and else it tells that they don't; and a path leads to a plain file just where the system tells so
abbrev pub IsHeld : Outside → Event → Type 0
IsHeld o (reads (Some path) (Ok text)) = IfSome (o.holds path) (λ held. text ≡ take MOST_READ held)
IsHeld o (reads (Some path) (Err why)) = IsAnsweredBy (o.refuses path) (trouble.Refused why)
IsHeld o (reads None (Ok text)) = IfSome o.input (λ all. text ≡ take MOST_READ all)
IsHeld o (reads None (Err why)) = IsAnsweredBy o.input_refuses (trouble.Refused why)
IsHeld o (lacks path) = Unit {0}
IsHeld o (compares one other same) = ((one ≡ other) × (same ≡ true)) ⊎ o.tells_one one other same
IsHeld o (asks path plain) = o.tells_plain path plain
IsHeld o (writes path text why) = Unit {0}
IsHeld o (replaces path text why) = Unit {0}
IsHeld o (leaves path) = Unit {0}
IsHeld o (prints text why) = Unit {0}
IsHeld o (says line) = Unit {0}
IsHeld o (notes line) = Unit {0}
IsHeld o (shows error why) = Unit {0}

abbrev pub AreHeld : Outside → List Event → Type 0
AreHeld o [] = Unit {0}
AreHeld o (e ∷ es) = IsHeld o e × AreHeld o es

-- these were done, as far as they tell
pub record AreDone (o : Outside) (es : List Event) : Type 0 where
  pub held : AreHeld o es
  pub printed : IsOn (PutsOut o.out_failed) o.out es
  pub said : IsOn (PutsErr o.err_failed o.tells_terminal) o.err es
