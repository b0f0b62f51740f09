-- How many transactions of a run were done, and how many were not.
use Rattle.std.specs.Prelude.{◌-◌, ◌^◌, ℕ, Bool, true, false, List, min}
use Rattle.std.specs.List.{count_by, flat_map}
use mathlib.Core.Bool.{not}
use Rattle.transaction.specs.declared.outcome.Outcome.{Outcome}
use Rattle.transaction.specs.declared.outcome.Outcome.TheVariants.{Committed, Read}
use Rattle.editscripts.specs.Undone.{is_done}
use Rattle.edittext.specs.declared.counts.Counts.{Counts}

-- an entry of the history
abbrev pub is_committed : Outcome → Bool
is_committed (Committed number replies) = true
is_committed _ = false

-- one that only read
abbrev pub is_read : Outcome → Bool
is_read (Read place replies) = true
is_read _ = false

-- those of all scripts
abbrev pub all_of : List (List Outcome) → List Outcome
all_of rows = flat_map (λ row. row) rows

-- how many of these are so, up to the largest number that a usize has
abbrev pub count_of : (Outcome → Bool) → List Outcome → ℕ
count_of is outcomes = min (count_by is outcomes) (2 ^ 64 - 1)

abbrev pub counted : List Outcome → Counts
counted outcomes = record {
  committed = count_of is_committed outcomes;
  read = count_of is_read outcomes;
  undone = count_of (λ o. not (is_done o)) outcomes;
}
