-- A seat: where its run stands in the transaction, its read version rv, its read set and the cells that it holds.
--
-- TL2, section 2.2: rv is the sample of the global version clock (step 1), the reads are the read set and the held cells
-- are the write set (step 2), whose values are kept aside until the run commits (step 6).
use Rattle.std.specs.Prelude.{ℕ, ◌/◌, ◌%◌, Bool, true, false, not, ◌&&◌, ◌||◌, if◌then◌else◌, ◌==◌, nat_lt, nat_le, suc, Option, Some, None}
use Rattle.std.specs.Prelude.{List, [], ◌∷◌, map}
use Rattle.std.specs.List.{find, filter, list_any, list_all}
use Rattle.tlcore.specs.History.{wv}
pub use Rattle.tlcore.specs.declared.seats.Read.{Read}
pub use Rattle.tlcore.specs.declared.seats.Held.{Held}
pub use Rattle.tlcore.specs.declared.seats.Phase.{Phase}
pub use Rattle.tlcore.specs.declared.seats.Phase.TheVariants.{Idle, Reading, Looked, Loaded, Taking, Checking, Storing, Failing, Voiding}

-- conflicted: the seat's last run met a conflict, and no Begin of the seat came since. clocks: what its loads of the clock found, the
-- newest first. locked: the cells that it has locked, in all its runs, the newest first. looked: the cell and the lock word that its last
-- look, check or take since the last load of the clock found
pub record Seat : Type 0 where
  pub phase : Phase
  pub rv : ℕ
  pub reads : List Read
  pub held : List Held
  pub conflicted : Bool
  pub clocks : List ℕ
  pub locked : List ℕ
  pub looked : Option (ℕ × ℕ)

-- a seat that never ran
abbrev pub idle : Seat
idle = record { phase = Idle; rv = 0; reads = []; held = []; conflicted = false; clocks = []; locked = []; looked = None }

-- the index of the entry that the run has drawn
abbrev pub number_at : Phase → Option ℕ
number_at Idle = None
number_at Reading = None
number_at (Looked c x) = None
number_at (Loaded c x v) = None
number_at Taking = None
number_at (Checking i u) = Some i
number_at (Storing i) = Some i
number_at Failing = None
number_at (Voiding i) = Some i

-- no run, or one outside a read that holds no cell
abbrev pub is_resting : Phase → Bool
is_resting Idle = true
is_resting Reading = true
is_resting (Looked c word) = false
is_resting (Loaded c word value) = false
is_resting Taking = false
is_resting (Checking i upto) = false
is_resting (Storing i) = false
is_resting Failing = false
is_resting (Voiding i) = false

-- a run outside a read that holds no cell
abbrev pub is_reading : Phase → Bool
is_reading Idle = false
is_reading Reading = true
is_reading (Looked c word) = false
is_reading (Loaded c word value) = false
is_reading Taking = false
is_reading (Checking i upto) = false
is_reading (Storing i) = false
is_reading Failing = false
is_reading (Voiding i) = false

-- ---- the lock word

-- a lock word is twice its version, and one more where it is locked. A look passes where it is free and of version at most rv
abbrev pub passes : ℕ → ℕ → Bool
passes word rv = (word % 2 == 0) && nat_le (word / 2) rv

-- ---- the read set

-- the newest read of the cell c
abbrev pub find_read : ℕ → List Read → Option Read
find_read c rs = find (λ r. r.cell == c) rs

-- the reads as cells and values
abbrev pub reads_of : List Read → List (ℕ × ℕ)
reads_of rs = map (λ r. (r.cell, r.value)) rs

-- ---- the cells that are held

-- the cell c among those held
abbrev pub find_held : ℕ → List Held → Option Held
find_held c ks = find (λ k. k.cell == c) ks

-- whether the cell c is held
abbrev pub is_held : ℕ → List Held → Bool
is_held c ks = list_any (λ k. k.cell == c) ks

-- whether nothing is held
abbrev pub is_nil : List Held → Bool
is_nil [] = true
is_nil (k ∷ ks) = false

-- each held cell stands before c
abbrev pub all_below : ℕ → List Held → Bool
all_below c ks = list_all (λ k. nat_lt k.cell c) ks

-- what is held but the cell c
abbrev pub without : ℕ → List Held → List Held
without c ks = filter (λ k. not (k.cell == c)) ks

-- the value is stored, where this is the cell c
abbrev pub marked : ℕ → Held → Held
marked c k = if k.cell == c then record k { stored = true } else k

-- the value of the cell c is stored
abbrev pub with_stored : ℕ → List Held → List Held
with_stored c ks = map (marked c) ks

-- the writes as cells and values
abbrev pub writes_of : List Held → List (ℕ × ℕ)
writes_of ks = map (λ k. (k.cell, k.value)) ks

-- ---- the check of the read set (TL2, section 2.2, step 5)

-- a cell that was read needs no check any more: it is held, or it is checked, which is so of each one below `upto`
abbrev pub is_settled : List Held → ℕ → ℕ → Bool
is_settled held upto c = is_held c held || nat_lt c upto

-- each cell below the bound that was read is settled
abbrev pub settled_below : ℕ → List Held → ℕ → List Read → Bool
settled_below bound held upto rs = list_all (λ r. nat_le bound r.cell || is_settled held upto r.cell) rs

-- each cell that was read is settled
abbrev pub all_settled : List Held → ℕ → List Read → Bool
all_settled held upto rs = list_all (λ r. is_settled held upto r.cell) rs

-- the check is due at c: it isn't settled, and each smaller cell that was read is
abbrev pub is_due : Seat → ℕ → ℕ → Bool
is_due t upto c = not (is_settled t.held upto c) && settled_below c t.held upto t.reads

-- rv + 1 = wv: nobody drew a number in between, so the read set needs no check. The run's entry has the index i
abbrev pub is_next : Seat → ℕ → Bool
is_next t i = suc t.rv == wv i
