-- Of the code's inside, apart from the rules: the cells of a log that a step of a commit is for, as it goes over them.
use Rattle.std.specs.Prelude.{◌≡◌, ℕ, zero, suc, ◌<◌, ◌≤◌, ◌&&◌, not, Bool, true, false, is_some, if◌then◌else◌, Option, Some, None, List}
use Rattle.std.specs.Prelude.{length, slice_get}
use Rattle.tlwords.specs.declared.log.Slot.{Slot}
use Rattle.tlwords.specs.declared.log.Touched.{Touched}
use Rattle.tlwords.specs.Runs.{word_seen, value_kept, was_read}

-- the cell was read, and is to be written or not, as `kept` says
abbrev pub is_wanted : List Slot → Bool → ℕ → Bool
is_wanted slots kept c = was_read slots c && (if kept then is_some (value_kept slots c) else not (is_some (value_kept slots c)))

-- none of the cells from `low` to before `high` is wanted
abbrev pub NoneWanted : List Slot → Bool → ℕ → ℕ → Type 0
NoneWanted slots kept low high = (c : ℕ) → low ≤ c → c < high → is_wanted slots kept c ≡ false

-- the cell c is the least one from `low` on that is wanted
abbrev pub IsLeast : List Slot → Bool → ℕ → ℕ → Type 0
IsLeast slots kept low c = (low ≤ c) × (c < length slots) × (is_wanted slots kept c ≡ true) × NoneWanted slots kept low c

-- t is the least cell from `low` on that is wanted, with the word that was seen and the value to be written
abbrev pub IsNext : List Slot → Bool → ℕ → Touched → Type 0
IsNext slots kept low t =
    IsLeast slots kept low t.cell × (word_seen slots t.cell ≡ Some t.word) × (kept ≡ true → value_kept slots t.cell ≡ Some t.value)

-- the first cell behind that of t
abbrev pub behind : Option Touched → ℕ
behind None = 0
behind (Some t) = suc t.cell

-- the first cell behind the first n of these
abbrev pub low_of : List Touched → ℕ → ℕ
low_of ts zero = 0
low_of ts (suc n) = behind (slice_get ts n)

-- these are the cells that are wanted, in ascending order
abbrev pub IsPlan : List Slot → Bool → List Touched → Type 0
IsPlan slots kept ts =
    ((n : ℕ) (t : Touched) → slice_get ts n ≡ Some t → IsNext slots kept (low_of ts n) t)
    × NoneWanted slots kept (low_of ts (length ts)) (length slots)
