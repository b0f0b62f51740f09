-- The report of a run: for each transaction a line with its number and its outcome, and the lines of its replies.
use Rattle.std.specs.Prelude.{ℕ, ◌+◌, List, [], ◌∷◌, ◌++◌, All, codes}
use Rattle.std.specs.List.{flat_map}
use Rattle.std.specs.Fmt.{decimal}
use Rattle.mmsyntax.specs.Tables.{Tables}
use Rattle.mmsyntax.specs.Layout.{line}
use Rattle.library.specs.Reasons.{printed_reason}
use Rattle.library.specs.Fitting.{ReplyFits}
use Rattle.historytext.specs.Layout.{reply_text}
use Rattle.transaction.specs.declared.outcome.Outcome.{Outcome}
use Rattle.transaction.specs.declared.outcome.Outcome.TheVariants.{Committed, Read, Refused, Conflict, StoreFull, NumbersUsed, TooManyCommands, NoMemory}

-- ---- outcomes

-- `committed N` or `read PLACE`, then the lines of the replies in order; `refused PLACE at INDEX: ` and the reason; `store full`, `numbers
-- used`, `too many commands`, `no memory`. No outcome of a run is a conflict
abbrev pub outcome_text : Tables → Outcome → List ℕ
outcome_text t (Committed number replies) = line (codes "committed" ∷ decimal number ∷ []) ++ flat_map (reply_text t) replies
outcome_text t (Read place replies) = line (codes "read" ∷ decimal place ∷ []) ++ flat_map (reply_text t) replies
outcome_text t (Refused place index reason) =
    codes "refused " ++ (decimal place ++ (codes " at " ++ (decimal index ++ (codes ": " ++ (printed_reason reason ++ 10 ∷ [])))))
outcome_text t (Conflict place cell word before) = []
outcome_text t StoreFull = codes "store full" ++ 10 ∷ []
outcome_text t NumbersUsed = codes "numbers used" ++ 10 ∷ []
outcome_text t TooManyCommands = codes "too many commands" ++ 10 ∷ []
outcome_text t NoMemory = codes "no memory" ++ 10 ∷ []

-- what a report can print: replies within the limits, and no conflict
abbrev pub IsReportable : Tables → Outcome → Type 0
IsReportable t (Committed n replies) = All (ReplyFits t) replies
IsReportable t (Read n replies) = All (ReplyFits t) replies
IsReportable t (Conflict place cell word before) = ⊥
IsReportable t _ = Unit {0}

abbrev pub AreReportable : Tables → List (List Outcome) → Type 0
AreReportable t rows = All (All (IsReportable t)) rows

-- ---- reports

-- the lines of the k-th transaction of the s-th script: `S.T `, then the outcome's
abbrev pub numbered_text : Tables → ℕ → ℕ → Outcome → List ℕ
numbered_text t s k outcome = decimal s ++ 46 ∷ (decimal k ++ 32 ∷ outcome_text t outcome)

-- those of the transactions of the s-th script, from the k-th on
abbrev pub script_text_from : Tables → ℕ → ℕ → List Outcome → List ℕ
script_text_from t s k [] = []
script_text_from t s k (o ∷ os) = numbered_text t s k o ++ script_text_from t s (k + 1) os

-- those of the scripts from the s-th on
abbrev pub scripts_text_from : Tables → ℕ → List (List Outcome) → List ℕ
scripts_text_from t s [] = []
scripts_text_from t s (row ∷ rows) = script_text_from t s 1 row ++ scripts_text_from t (s + 1) rows

-- the report of all scripts; scripts count from 1, and so do the transactions of each
abbrev pub report_text : Tables → List (List Outcome) → List ℕ
report_text t rows = scripts_text_from t 1 rows
