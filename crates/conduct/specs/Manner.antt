-- How a command reads, and what it tells of the system.
use Rattle.std.specs.Prelude.{Bool, List, Option, Some, None, codes, count_by, if◌then◌else◌, nat_lt}
use Rattle.std.specs.Str.{bytes_eq}
use Rattle.conduct.specs.declared.manner.Manner.{Manner}
use Rattle.conduct.specs.declared.manner.Manner.TheVariants.{Short, Full}
use Rattle.outside.specs.declared.reason.Reason.{Reason}
use Rattle.outside.specs.Events.{Bytes}
use Rattle.outside.specs.Reasons.{unread_text, unwritten_text}

-- a path stands for the standard input
abbrev pub is_input : Bytes → Bool
is_input path = bytes_eq path (codes "-")

-- what a path stands for: a file, or the standard input, where it is `-`
abbrev pub origin : Manner → Bytes → Option Bytes
origin Short path = Some path
origin Full path = if is_input path then None else Some path

-- more than one of these paths does
abbrev pub is_input_twice : List Bytes → Bool
is_input_twice paths = nat_lt 1 (count_by is_input paths)

-- what is said of a text that can't be read, or written
abbrev pub unread_line : Manner → Reason → Bytes
unread_line Short why = codes "cannot read"
unread_line Full why = unread_text why

abbrev pub unwritten_line : Manner → Reason → Bytes
unwritten_line Short why = codes "cannot write"
unwritten_line Full why = unwritten_text why
