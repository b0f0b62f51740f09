-- What is noted behind an edit that was done: how many transactions were, and where the source with the edits is.
use Rattle.std.specs.Prelude.{◌≡◌, ◌⊎◌, ◌==◌, ◌%◌, ℕ, zero, Bool, true, false, List, [], ◌∷◌, ◌++◌, String, codes, if◌then◌else◌, length, map}
use Rattle.std.specs.Prelude.{string_bytes}
use Rattle.std.specs.Fmt.{decimal}
use Rattle.std.specs.declared.alloc.Global.{Global}
use Rattle.commandline.specs.declared.edit_order.Destination.{Destination}
use Rattle.commandline.specs.declared.edit_order.Destination.TheVariants as place
use Rattle.edittext.specs.declared.account.Account.{Account}
use Rattle.edittext.specs.declared.counts.Counts.{Counts}
use Rattle.outside.specs.Events.{Bytes, Event, notes}

-- ---- numbers

-- a comma in front of three digits, or a multiple of that
abbrev pub comma_if : Bytes → Bytes
comma_if [] = []
comma_if (d ∷ ds) = if length (d ∷ ds) % 3 == 0 then codes "," else []

-- digits with commas between groups of three, the last of which ends with the last digit
abbrev pub with_commas : Bytes → Bytes
with_commas [] = []
with_commas (d ∷ ds) = d ∷ (comma_if ds ++ with_commas ds)

abbrev pub grouped : ℕ → Bytes
grouped n = with_commas (decimal n)

-- ---- the summary

-- `, N WHAT` of so many, if there are any
abbrev pub counted_if : ℕ → Bytes → Bytes
counted_if zero what = []
counted_if many what = codes ", " ++ (grouped many ++ what)

-- what became of the source with the edits
abbrev pub put_text : Destination → Bytes → Bytes
put_text place.Printed source = codes "printed"
put_text (place.File path) source = path.now ++ codes " written"
put_text place.Source source = source ++ codes " written"

-- `N committed, M only read, K not done; PATH written, B bytes`
abbrev pub summary : Destination → Bytes → ℕ → Counts → Bytes
summary place source bytes c =
    grouped c.committed ++ (codes " committed" ++ (counted_if c.read (codes " only read") ++ (counted_if c.undone (codes " not done")
    ++ (codes "; " ++ (put_text place source ++ (codes ", " ++ (grouped bytes ++ codes " bytes")))))))

-- ---- what is noted

-- these lines, one after another
abbrev pub all_noted : List (String Global) → List Event
all_noted lines = map (λ line. notes (string_bytes line)) lines

-- the summary, of a text of so many bytes, or that there is no memory for it
abbrev pub IsSummary : Destination → Bytes → ℕ → Counts → Bytes → Type 0
IsSummary place source bytes counts line = (line ≡ summary place source bytes counts) ⊎ (line ≡ codes "no memory")

-- that, and then which labels comments still mention
pub record IsDoneNoted (place : Destination) (source : Bytes) (bytes : ℕ) (account : Account) (es : List Event) : Type 0 where
  pub line : Bytes
  pub is_summary : IsSummary place source bytes account.counts line
  pub each : es ≡ notes line ∷ all_noted account.mentions.items

-- so it is where the text is where it is to be, and else nothing is noted
abbrev pub IsNotedIf : Bool → Destination → Bytes → ℕ → Account → List Event → Type 0
IsNotedIf true place source bytes account es = IsDoneNoted place source bytes account es
IsNotedIf false place source bytes account es = es ≡ []
