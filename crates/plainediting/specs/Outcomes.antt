-- What becomes of transactions that one editor does in order, and of scripts from the opening of a database.
use Rattle.std.specs.Prelude.{◌≡◌, ◌+◌, ℕ, Bool, true, false, List, [], ◌∷◌, ◌++◌, Result, Ok, Err, Some, length, take, flat_map, slice_get}
use Rattle.std.specs.List.{AllZip}
use Rattle.mmsyntax.specs.Tables.{Contents}
use Rattle.mmsyntax.specs.declared.limits.TheConstants.{MOST_ASSERTIONS}
use Rattle.library.specs.declared.command.Command.{Command}
use Rattle.library.specs.declared.library.Ranked.{Ranked}
use Rattle.library.specs.declared.reason.Refused.{Refused as Refusal}
use Rattle.library.specs.Library.{Setting, Listed, setting_over, opening}
use Rattle.library.specs.Transactions.{Applied, apply, has_edit, has_too_many}
use Rattle.library.specs.Histories.{Entry, done_entry, after_all, IsAfterHistory}
use Rattle.transaction.specs.declared.outcome.Outcome.{Outcome}
use Rattle.transaction.specs.declared.outcome.Outcome.TheVariants as outcome
use Rattle.transaction.specs.Meeting.{refusal_of}

-- ---- one transaction

-- what is told where n transactions are committed so far, by whether this one has too many commands, whether it has an edit, and what its
-- definition answers: with an edit it has the next number, else n is its place
abbrev pub outcome_of : (too_many edits : Bool) → ℕ → Result Applied Refusal → Outcome
outcome_of true edits n answer = outcome.TooManyCommands
outcome_of false edits n (Err refused) = refusal_of n refused
outcome_of false true n (Ok a) = outcome.Committed (n + 1) a.replies
outcome_of false false n (Ok a) = outcome.Read n a.replies

-- the outcome of a transaction over a library, where n are committed so far
abbrev pub outcome_over : Setting → List Ranked → ℕ → List Command → Outcome
outcome_over s lib n cs = outcome_of (has_too_many cs) (has_edit cs) n (apply s lib cs)

-- the entries of a transaction with an outcome: one where it is committed, else none
abbrev pub entries_of : List Command → Outcome → List Entry
entries_of cs (outcome.Committed number replies) = done_entry cs replies ∷ []
entries_of cs _ = []

-- ---- transactions in order

-- the history of transactions with these outcomes: the entries of each, in order
abbrev pub history_after : List (List Command) → List Outcome → List Entry
history_after [] os = []
history_after (cs ∷ rest) [] = []
history_after (cs ∷ rest) (o ∷ os) = entries_of cs o ++ history_after rest os

-- each transaction has its outcome over the library after the history of those before it, where as many are committed as that has entries
abbrev pub AreInOrder : Setting → List Ranked → List (List Command) → List Outcome → Type 0
AreInOrder s lib0 transactions outcomes =
    (i : ℕ) (cs : List Command) → slice_get transactions i ≡ Some cs →
    let before = history_after (take i transactions) (take i outcomes) in
    slice_get outcomes i ≡ Some (outcome_over s (after_all s lib0 before) (length before) cs)

-- ---- scripts

-- one outcome for each transaction
abbrev pub HasAsMany : List (List Command) → List Outcome → Type 0
HasAsMany script outcomes = length outcomes ≡ length script

-- those of all scripts, one after another
abbrev pub joined : {A : Type 0} → List (List A) → List A
joined rows = flat_map (λ row. row) rows

-- scripts were done by one editor from the opening of a database: each has one outcome for each of its transactions; the transactions of all
-- scripts, one after another, have their outcomes in order; and the library is the one after their history, in export order
pub record IsEditedInOrder (db : Contents) (scripts : List (List (List Command))) (rows : List (List Outcome)) (library : Listed)
    : Type 0 where
  pub each : AllZip HasAsMany scripts rows
  pub outcomes : AreInOrder (setting_over db MOST_ASSERTIONS) (opening db) (joined scripts) (joined rows)
  pub after : IsAfterHistory (setting_over db MOST_ASSERTIONS) (opening db) (history_after (joined scripts) (joined rows)) library
