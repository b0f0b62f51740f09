-- What the program answers where scripts edit a source.
use Rattle.std.specs.Prelude.{◌≡◌, ◌≢◌, ℕ, Bool, false, List, [], string_bytes}
use Rattle.transaction.specs.declared.outcome.Outcome.{Outcome}
use Rattle.checking.specs.Checks.{Bytes}
use Rattle.jobs.specs.Jobs.{Room}
use Rattle.edittext.specs.Edited.{Run, IsEditedBy, IsAllowedRun}
use Rattle.edittext.specs.Accounts.{IsAccount, mentions_by, spoken_by}
use Rattle.edittext.specs.Refusals.{IsUneditedLine, IsUnfinishedLine}
use Rattle.edittext.specs.declared.answering.Told.{Told}
use Rattle.edittext.specs.declared.answering.Told.TheVariants.{Printed, Undone, Unfinished, Refused}

-- the source with the edits is printed, and it is said which transactions weren't done: none, where not a part of them is asked for. Or
-- these weren't done, which is said, and nothing is printed; or that is said, and a line says why nothing is printed behind the run; or a
-- line says why nothing is run. Nothing is run that a theorem forbids or that comments
-- of the source discourage, unless the latter is forced
abbrev pub IsEditAnswer : Bytes → List Bytes → Bytes → List Bytes → ℕ → Room → Bool → Bool → Bool → Told → Type 0
IsEditAnswer path paths source texts workers room force partial asked (Printed out account) =
    (rows : List (List Outcome)) × (edited : IsEditedBy source texts workers room rows out.items)
    × IsAccount paths edited.run asked (spoken_by path edited) (mentions_by edited) account × (partial ≡ false → account.undone.items ≡ [])
    × IsAllowedRun force edited.run
IsEditAnswer path paths source texts workers room force partial asked (Undone account) =
    (rows : List (List Outcome)) × (run : Run source texts workers room rows)
    × IsAccount paths run asked [] [] account × (account.undone.items ≢ []) × (partial ≡ false) × IsAllowedRun force run
IsEditAnswer path paths source texts workers room force partial asked (Unfinished account line) =
    (rows : List (List Outcome)) × (run : Run source texts workers room rows)
    × IsAccount paths run asked [] [] account × (partial ≡ false → account.undone.items ≡ []) × IsAllowedRun force run
    × IsUnfinishedLine path run (string_bytes line)
IsEditAnswer path paths source texts workers room force partial asked (Refused line) =
    IsUneditedLine path paths source texts workers room force (string_bytes line)
