-- The history: one entry for each number that was drawn, and what the Done entries make of the cells.
--
-- TL2 is Dice, Shalev, Shavit, "Transactional Locking II" (DISC 2006). A number is its write version wv (section 2.2,
-- write transactions, step 4). That a number is used up where its run fails after the draw is this project's own rule.
use Rattle.std.specs.Prelude.{◌≡◌, ◌≢◌, ℕ, zero, suc, ◌<◌, ◌≤◌, Bool, true, false, Option, Some, None, List, [], ◌∷◌}
use Rattle.std.specs.Prelude.{length, slice_get, slice_index, ◌⊎◌}
use Rattle.std.specs.Prelude.{option_and_then}
use Rattle.ranges.specs.Pairs.{written}
pub use Rattle.tlcore.specs.declared.entries.Status.{Status}
pub use Rattle.tlcore.specs.declared.entries.Status.TheVariants.{Open, Void, Done}

-- what a run read and what it is to write, each as a cell and a value
pub record WordsEntry : Type 0 where
  pub status : Status
  pub reads : List (ℕ × ℕ)
  pub writes : List (ℕ × ℕ)

-- the write version of the entry at the index i. Numbers count from 1, indices from 0
abbrev pub wv : ℕ → ℕ
wv i = suc i

-- the entry at the index i has a new status
abbrev pub settle : List WordsEntry → ℕ → Status → List WordsEntry
settle [] i s = []
settle (e ∷ es) zero s = record e { status = s } ∷ es
settle (e ∷ es) (suc i) s = e ∷ settle es i s

-- whether a settled entry is Done
abbrev pub is_done : Status → Option Bool
is_done Open = None
is_done Void = Some false
is_done Done = Some true

-- how the entry of a number is settled: Some true for Done, Some false for Void. An Open one and no entry give None
abbrev pub settled : List WordsEntry → ℕ → Option Bool
settled h zero = None
settled h (suc i) = option_and_then (λ e. is_done e.status) (slice_get h i)

-- ---- what an entry does to one cell

-- nothing, a write that is still to be settled, or a write that was made
pub data Deed : Type 0 where
  Nothing : Deed
  Will : (value : ℕ) → Deed
  Did : (value : ℕ) → Deed

-- what an entry of this status does to a cell, to which it writes this value or none
abbrev pub deed_of : Status → Option ℕ → Deed
deed_of Open (Some v) = Will v
deed_of Done (Some v) = Did v
deed_of Void (Some v) = Nothing
deed_of Open None = Nothing
deed_of Done None = Nothing
deed_of Void None = Nothing

-- what the entry, if there is one, does to the cell c
abbrev pub deed_in : ℕ → Option WordsEntry → Deed
deed_in c None = Nothing
deed_in c (Some e) = deed_of e.status (written c e.writes)

-- what the entry at the index i does to the cell c
abbrev pub deed : List WordsEntry → ℕ → ℕ → Deed
deed h c i = deed_in c (slice_get h i)

-- ---- value and version of a cell

-- the value of a cell after one deed, v being the one before
abbrev pub value_over : Deed → ℕ → ℕ
value_over Nothing v = v
value_over (Will x) v = v
value_over (Did x) v = x

-- the value of a cell after the Done entries among the first k, in order, over its opening value o
abbrev pub value_after : (ℕ → Deed) → ℕ → ℕ → ℕ
value_after d o zero = o
value_after d o (suc k) = value_over (d k) (value_after d o k)

-- the version of a cell after the deed of the entry n, v being the one before
abbrev pub version_over : Deed → ℕ → ℕ → ℕ
version_over Nothing n v = v
version_over (Will x) n v = v
version_over (Did x) n v = n

-- the version of a cell after the first k entries: the number of the last Done one that writes it, or 0
abbrev pub version_after : (ℕ → Deed) → ℕ → ℕ
version_after d zero = 0
version_after d (suc k) = version_over (d k) (suc k) (version_after d k)

-- the number of the last Done writer of the cell c in the whole history, or 0
abbrev pub version : List WordsEntry → ℕ → ℕ
version h c = version_after (deed h c) (length h)

-- the value of the cell c after the whole history, o being the opening values
abbrev pub value : List ℕ → List WordsEntry → ℕ → ℕ
value o h c = value_after (deed h c) (slice_index o c) (length h)

-- v is 0, or the number of a Done entry that writes the cell c
abbrev pub IsVersionOf : List WordsEntry → ℕ → ℕ → Type 0
IsVersionOf h c v = (v ≡ 0) ⊎ ((i : ℕ) × (x : ℕ) × (v ≡ wv i) × (deed h c i ≡ Did x))

-- ---- one version

-- no Open entry among the first k writes the cell
abbrev pub NoneWill : (ℕ → Deed) → ℕ → Type 0
NoneWill d k = (i v : ℕ) → i < k → d i ≡ Will v → ⊥

-- v is the value of the cell c after the first k entries, and no Open entry among them writes c
abbrev pub IsOne : List ℕ → List WordsEntry → ℕ → ℕ → ℕ → Type 0
IsOne o h k c v = (value_after (deed h c) (slice_index o c) k ≡ v) × NoneWill (deed h c) k

-- what was read is one version, that after the first k entries
abbrev pub One : List ℕ → List WordsEntry → ℕ → List (ℕ × ℕ) → Type 0
One o h k [] = Unit {0}
One o h k (r ∷ rs) = IsOne o h k r.0 r.1 × One o h k rs

-- ---- growing

-- an entry keeps its reads and writes, and once settled its status
abbrev pub EntryGrows : WordsEntry → WordsEntry → Type 0
EntryGrows e f = (f.reads ≡ e.reads) × (f.writes ≡ e.writes) × (e.status ≢ Open → f.status ≡ e.status)

-- h is a later history than g: at least as long, with each entry of g grown at its place
abbrev pub Grows : List WordsEntry → List WordsEntry → Type 0
Grows g h =
    (length g ≤ length h)
    × ((i : ℕ) (e : WordsEntry) → slice_get g i ≡ Some e → (f : WordsEntry) × (slice_get h i ≡ Some f) × EntryGrows e f)
