-- A command, as it is named where it is refused.
use Rattle.std.specs.Prelude.{ℕ, List, ◌++◌, codes}
use Rattle.checking.specs.FaultLines.{shown_label}
use Rattle.library.specs.declared.command.Command.{Command}
use Rattle.library.specs.declared.command.Command.TheVariants.{Add, Reprove, Replace, Rename, Move, Delete, Show, List as ListAll}

-- a command's word, and the labels that it speaks of
abbrev pub command_text : Command → List ℕ
command_text (Add rank a) = codes "add " ++ shown_label a.label
command_text (Reprove label steps) = codes "reprove " ++ shown_label label
command_text (Replace label old new) =
    codes "replace " ++ (shown_label label ++ (codes " " ++ (shown_label old ++ (codes " " ++ shown_label new))))
command_text (Rename old new) = codes "rename " ++ (shown_label old ++ (codes " " ++ shown_label new))
command_text (Move label rank) = codes "move " ++ shown_label label
command_text (Delete label) = codes "delete " ++ shown_label label
command_text (Show label) = codes "show " ++ shown_label label
command_text ListAll = codes "list"
