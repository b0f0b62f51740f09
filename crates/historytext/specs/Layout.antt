-- The canonical text of a history: transactions at the left edge, replies as a report prints them.
use Rattle.std.specs.Prelude.{ℕ, Bool, true, false, ◌==◌, List, [], ◌∷◌, ◌++◌, length, map, All, codes}
use Rattle.std.specs.List.{flat_map}
use Rattle.std.specs.Fmt.{decimal}
use Rattle.mmsyntax.specs.Tables.{Tables}
use Rattle.mmtext.specs.Words.{Word}
use Rattle.mmsyntax.specs.Grammar.{spelling}
use Rattle.mmsyntax.specs.Layout.{line, step_word, unit_statement, assertion_text}
use Rattle.library.specs.declared.command.Command.{Command}
use Rattle.library.specs.declared.command.Command.TheVariants as command
use Rattle.library.specs.declared.command.Line.{Line}
use Rattle.library.specs.declared.command.Reply.{Reply}
use Rattle.library.specs.declared.command.Reply.TheVariants.{Done, Shown, Listed}
use Rattle.library.specs.declared.history.Entry.{Entry}
use Rattle.library.specs.declared.history.Entry.TheVariants as entry
use Rattle.library.specs.Fitting.{CommandFits, ReplyFits}
use Rattle.scripts.specs.Scripts.{Part, a_word, a_rank, a_unit, a_proof, parts}
use Rattle.historytext.specs.Grammar.{kind_word}

-- ---- transactions: a line for begin, each command and commit

-- the words of a part of a command, and of all its parts
abbrev pub part_words : Tables → Part → List Word
part_words t (a_word w) = w ∷ []
part_words t (a_rank rank) = decimal rank ∷ []
part_words t (a_unit a) = spelling (unit_statement t a)
part_words t (a_proof label steps) = codes "$=" ∷ (map (step_word t label) steps ++ codes "$." ∷ [])

abbrev pub command_words : Tables → Command → List Word
command_words t c = flat_map (part_words t) (parts c)

-- a command is one line of its words, but an assertion that it adds stands in lines of its own
abbrev pub command_text : Tables → Command → List ℕ
command_text t (command.Add rank a) = line (codes "add" ∷ decimal rank ∷ []) ++ assertion_text t a
command_text t c = line (command_words t c)

abbrev pub transaction_text : Tables → List Command → List ℕ
transaction_text t commands = line (codes "begin" ∷ []) ++ (flat_map (command_text t) commands ++ line (codes "commit" ∷ []))

-- ---- replies: two spaces before each, four before what belongs to it

-- four spaces before each line of a text; `begins` says whether a line begins here
abbrev pub set_in : Bool → List ℕ → List ℕ
set_in begins [] = []
set_in true (b ∷ bs) = codes "    " ++ b ∷ set_in (b == 10) bs
set_in false (b ∷ bs) = b ∷ set_in (b == 10) bs

abbrev pub line_text : Line → List ℕ
line_text l = codes "    " ++ line (decimal l.rank ∷ l.label ∷ kind_word l.kind ∷ decimal l.citers ∷ [])

abbrev pub reply_text : Tables → Reply → List ℕ
reply_text t Done = codes "  " ++ line (codes "done" ∷ [])
reply_text t (Shown rank citers a) =
    codes "  " ++ (line (codes "shown" ∷ decimal rank ∷ decimal citers ∷ []) ++ set_in true (assertion_text t a))
reply_text t (Listed lines) = codes "  " ++ (line (codes "listed" ∷ decimal (length lines) ∷ []) ++ flat_map line_text lines)

-- ---- histories

abbrev pub entry_text : Tables → Entry → List ℕ
entry_text t entry.Void = line (codes "void" ∷ [])
entry_text t (entry.Done commands replies) =
    line (codes "done" ∷ []) ++ (transaction_text t commands ++ flat_map (reply_text t) replies)

abbrev pub history_text : Tables → List Entry → List ℕ
history_text t history = line (codes "history" ∷ decimal (length history) ∷ []) ++ flat_map (entry_text t) history

-- ---- what can be written

-- commands and replies within the limits of the prelude
abbrev pub EntryFitsText : Tables → Entry → Type 0
EntryFitsText t entry.Void = Unit {0}
EntryFitsText t (entry.Done commands replies) = All (CommandFits t) commands × All (ReplyFits t) replies
