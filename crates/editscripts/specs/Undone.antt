-- The lines of transactions that weren't done.
use Rattle.std.specs.Prelude.{◌≡◌, ℕ, suc, Bool, true, false, ◌-◌, List, [], ◌∷◌, ◌++◌, Option, Some, None, String, codes, if◌then◌else◌}
use Rattle.std.specs.Prelude.{map, slice_get, slice_index_or, string_bytes}
use Rattle.std.specs.List.{list_all}
use Rattle.std.specs.declared.alloc.Global.{Global}
use Rattle.std.specs.Fmt.{decimal}
use Rattle.library.specs.declared.command.Command.{Command}
use Rattle.library.specs.Reasons.{printed_reason}
use Rattle.replylines.specs.CommandTexts.{command_text}
use Rattle.transaction.specs.declared.outcome.Outcome.{Outcome}
use Rattle.transaction.specs.declared.outcome.Outcome.TheVariants.{Committed, Read, Refused, Conflict, StoreFull, NumbersUsed, TooManyCommands, NoMemory}
use Rattle.checking.specs.Checks.{Bytes, Orders}
use Rattle.locating.specs.Lines.{line_at}

-- ---- one transaction

-- a transaction was done: it is an entry of the history, or it only read
abbrev pub is_done : Outcome → Bool
is_done (Committed number replies) = true
is_done (Read place replies) = true
is_done _ = false

abbrev pub all_done : List (List Outcome) → Bool
all_done rows = list_all (list_all is_done) rows

-- a command is refused for a reason
abbrev pub refused_text : Option Command → Bytes → Bytes
refused_text None why = why
refused_text (Some c) why = command_text c ++ (codes ": " ++ why)

-- why a transaction with these commands wasn't done: one of them, which count from 1, was refused; or what it wanted of the run
abbrev pub undone_text : List Command → Outcome → Bytes
undone_text commands (Committed number replies) = []
undone_text commands (Read place replies) = []
undone_text commands (Refused place index reason) = refused_text (slice_get commands (index - 1)) (printed_reason reason)
undone_text commands (Conflict place cell word before) = codes "conflict"
undone_text commands StoreFull = codes "store full"
undone_text commands NumbersUsed = codes "numbers used"
undone_text commands TooManyCommands = codes "too many commands"
undone_text commands NoMemory = codes "no memory"

-- `PATH:LINE: ` and that, where it wasn't done
abbrev pub undone_line : Bytes → ℕ → List Command → Outcome → List Bytes
undone_line path line commands outcome =
    if is_done outcome then []
    else (path ++ (codes ":" ++ (decimal line ++ (codes ": " ++ undone_text commands outcome)))) ∷ []

-- ---- all of them

-- what each of a list has, by its place, from the k-th on
abbrev pub each_from : {A B : Type 0} → (ℕ → A → List B) → ℕ → List A → List B
each_from F k [] = []
each_from F k (x ∷ xs) = F k x ++ each_from F (suc k) xs

-- those of the transactions of a script, which begin on these lines
abbrev pub undone_of : Bytes → List ℕ → Orders → List Outcome → List Bytes
undone_of path lines script outcomes =
    each_from (λ k outcome. undone_line path (slice_index_or lines k 0) (slice_index_or script k []) outcome) 0 outcomes

-- those of the scripts, whose transactions begin at these places; in front of their paths stands that of the source
abbrev pub all_undone : List Bytes → List Bytes → List (List ℕ) → List Orders → List (List Outcome) → List Bytes
all_undone paths texts beginnings scripts rows =
    each_from (λ n row. undone_of (slice_index_or paths (suc n) [])
    (map (line_at (slice_index_or texts n [])) (slice_index_or beginnings n [])) (slice_index_or scripts n []) row) 0 rows

-- of the code's inside: the text of a transaction, if it wasn't done
abbrev pub IsUndoneText : List Command → Outcome → Option (String Global) → Type 0
IsUndoneText commands outcome None = is_done outcome ≡ true
IsUndoneText commands outcome (Some text) = (is_done outcome ≡ false) × (string_bytes text ≡ undone_text commands outcome)
