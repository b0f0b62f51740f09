-- Of the code's inside, apart from the rules: records put in the order of their numbers.
use Rattle.std.specs.Prelude.{◌≡◌, ◌<◌, ℕ, suc, ◌%◌, ◌⊎◌, Option, Some, None, List, length, slice_get}
use Rattle.library.specs.declared.history.Entry.{Entry}
use Rattle.library.specs.Histories.{seen_entry}
use Rattle.ranges.specs.Ranges.{Has}
use Rattle.tlwords.specs.declared.closing.ClosedCell.{ClosedCell}
use Rattle.transaction.specs.declared.outcome.Record.{Record}
use Rattle.transaction.specs.Members.{entry_recorded}

-- the record tells the entry with the index i
abbrev pub Tells : Record → ℕ → Entry → Type 0
Tells r i e = (r.number ≡ suc i) × (entry_recorded r.done ≡ seen_entry e)

-- some record of these lists has the number with the index i
abbrev pub IsToldIn : List (List Record) → ℕ → Type 0
IsToldIn lists i = (own : List Record) × (r : Record) × Has own lists × Has r own × (r.number ≡ suc i)

-- so many places: each entry is told by a record, and a place is empty only where no record has its number
pub record AreOrdered (clock : ℕ) (lists : List (List Record)) (entries : List (Option Entry)) : Type 0 where
  pub long : length entries ≡ clock
  pub told_by : (i : ℕ) (e : Entry) → slice_get entries i ≡ Some (Some e)
      → (own : List Record) × (r : Record) × Has own lists × Has r own × Tells r i e
  pub none : (i : ℕ) → slice_get entries i ≡ Some None → IsToldIn lists i → ⊥

-- the entries of these records are put at their places, and the others are as they were
pub record ArePut (records : List Record) (old new : List (Option Entry)) : Type 0 where
  pub long : length new ≡ length old
  pub put : (i : ℕ) (e : Entry) → slice_get new i ≡ Some (Some e)
      → ((r : Record) × Has r records × Tells r i e) ⊎ (slice_get old i ≡ Some (Some e))
  pub none : (i : ℕ) → slice_get new i ≡ Some None → (slice_get old i ≡ Some None) × ((r : Record) → Has r records → r.number ≡ suc i → ⊥)

-- the first place without an entry, if there is one
abbrev pub IsFirstMissing : List (Option Entry) → Option ℕ → Type 0
IsFirstMissing entries None = (i : ℕ) → slice_get entries i ≡ Some None → ⊥
IsFirstMissing entries (Some k) = (slice_get entries k ≡ Some None) × ((i : ℕ) → i < k → slice_get entries i ≡ Some None → ⊥)

-- the first cell whose lock is held, if there is one
abbrev pub IsFirstHeld : List ClosedCell → Option ℕ → Type 0
IsFirstHeld cells None = (c : ℕ) (x : ClosedCell) → slice_get cells c ≡ Some x → x.lock % 2 ≡ 1 → ⊥
IsFirstHeld cells (Some k) =
    ((x : ClosedCell) × (slice_get cells k ≡ Some x) × (x.lock % 2 ≡ 1))
    × ((c : ℕ) (x : ClosedCell) → c < k → slice_get cells c ≡ Some x → x.lock % 2 ≡ 1 → ⊥)
