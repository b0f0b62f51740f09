-- What a program does on the outside, one thing after another.
use Rattle.std.specs.Prelude.{ℕ, Bool, List, [], ◌∷◌, ◌++◌, Option, Some, None, Result, Ok, Err, string_bytes}
use Rattle.std.specs.Prelude.{Vec}
use Rattle.std.specs.Option.{option_map}
use Rattle.std.specs.declared.alloc.Global.{Global}
use Rattle.clap.specs.declared.error.Error.{Error}
use Rattle.outside.specs.declared.reason.Reason.{Reason}
use Rattle.outside.specs.declared.trouble.Trouble.{Trouble}
use Rattle.outside.specs.declared.trouble.Trouble.TheVariants as trouble
use Rattle.outside.specs.declared.trouble.Unwritten.{Unwritten}

abbrev pub Bytes : Type 0
Bytes = List ℕ

-- it reads the file at a path, or the standard input, where there is no path, and gets its bytes, or none, for a reason, where it can't be
-- read; there is no memory for what it has; it asks whether two paths lead to one file, or whether one leads to a plain file, and is told;
-- it writes a text to the file at a path, or can't, for a trouble; it puts a text in place of what the file at a path has, or can't, and
-- then that has what it had; a new file, which it made for that at a path, stays there; it prints a text on the standard output, or can't,
-- for a reason; it says a line on the standard error; it notes one there, if that is a terminal; it shows what the parser of command lines
-- says, on the stream of that, or can't
pub data Event : Type 0 where
  reads : Option Bytes → Result Bytes Reason → Event
  lacks : Option Bytes → Event
  compares : Bytes → Bytes → Bool → Event
  asks : Bytes → Bool → Event
  writes : Bytes → Bytes → Option Trouble → Event
  replaces : Bytes → Bytes → Option Trouble → Event
  leaves : Bytes → Event
  prints : Bytes → Option Reason → Event
  says : Bytes → Event
  notes : Bytes → Event
  shows : Error → Option Reason → Event

-- these were done behind what was done before: where it told of a front that it was done, it tells so of the front with these behind it
pub record Adds (before after : List Event → Type 0) (es : List Event) : Type 0 where
  pub behind : (front : List Event) → before front → after (front ++ es)

-- what there is to be read was read, or it wasn't
abbrev pub reading_of : Option Bytes → Result (Vec ℕ Global) Trouble → Event
reading_of path (Ok text) = reads path (Ok text.items)
reading_of path (Err (trouble.Refused why)) = reads path (Err why)
reading_of path (Err trouble.NoMemory) = lacks path

-- why a text isn't where it is to be, if it isn't
abbrev pub trouble_in : {A : Type 0} → Result A Unwritten → Option Trouble
trouble_in (Ok done) = None
trouble_in (Err why) = Some why.trouble

-- the new file that is left where a text isn't where it is to be
abbrev pub left_of : Unwritten → Option Bytes
left_of why = option_map string_bytes why.left

abbrev pub path_left : {A : Type 0} → Result A Unwritten → Option Bytes
path_left (Ok done) = None
path_left (Err why) = left_of why

abbrev pub leaving : Option Bytes → List Event
leaving (Some path) = leaves path ∷ []
leaving None = []

-- why a text isn't printed or shown, if it isn't
abbrev pub reason_in : {A : Type 0} → Result A Reason → Option Reason
reason_in (Ok done) = None
reason_in (Err why) = Some why

-- nothing was written, printed, said or noted: something was read or asked
abbrev pub IsQuiet : Event → Type 0
IsQuiet (reads path got) = Unit {0}
IsQuiet (lacks path) = Unit {0}
IsQuiet (compares one other same) = Unit {0}
IsQuiet (asks path plain) = Unit {0}
IsQuiet (writes path text why) = ⊥
IsQuiet (replaces path text why) = ⊥
IsQuiet (leaves path) = ⊥
IsQuiet (prints text why) = ⊥
IsQuiet (says line) = ⊥
IsQuiet (notes line) = ⊥
IsQuiet (shows error why) = ⊥
