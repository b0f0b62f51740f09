-- What a run keeps of the cells, as the pairs that it writes.
use Rattle.std.proofs.Common.{◌≡◌, ◌≢◌, ℕ, zero, suc, ◌<◌, ◌≤◌, ◌⊎◌, inl, inr, Option, Some, None, List, [], ◌∷◌, length}
use Rattle.std.proofs.Common.{eq-eqb, ne_eqb, refl, sym, ap, ◌∙◌, arith}
use Rattle.std.specs.Prelude.{option_and_then}
use Rattle.std.proofs.lemmas.Bool.{cases_lt}
use Rattle.std.proofs.lemmas.Option.{slice_get_past}
use mathlib.Core.Logic.{dite}
use native.Mathlib.Decide.{ℕ_discrete}
use Rattle.ranges.specs.Pairs.{Pairs, written}
use Rattle.ranges.specs.Ranges.{Has}
use Rattle.tlwords.specs.declared.log.Slot.{Slot}
use Rattle.tlwords.specs.Runs.{value_kept, IsBlank}
use Rattle.tlwords.specs.Commits.{with_write, writes_below, writes_kept, cells_of}
use Rattle.tlwords.proofs.Held.{no_writes}
use Rattle.tlwords.proofs.Fronts.{written_has}

-- ---- one cell more

written_here : (n : ℕ) (o : Option ℕ) (ps : Pairs) → written n ps ≡ None → written n (with_write n o ps) ≡ o
written_here n None ps e = e
written_here n (Some v) ps e = rw (eq-eqb n n refl) refl

written_else : (c n : ℕ) (o : Option ℕ) (ps : Pairs) → n ≢ c → written c (with_write n o ps) ≡ written c ps
written_else c n None ps ne = refl
written_else c n (Some v) ps ne = rw (ne_eqb n c ne) refl

has_one : (c v n : ℕ) (o : Option ℕ) (ps : Pairs) → Has (c, v) (with_write n o ps) → ((n ≡ c) × (o ≡ Some v)) ⊎ Has (c, v) ps
has_one c v n None ps h = inr h
has_one c v n (Some w) ps (inl e) = inl (ap (λ (p : ℕ × ℕ). p.0) (sym e), ap (λ (p : ℕ × ℕ). Some p.1) (sym e))
has_one c v n (Some w) ps (inr h) = inr h

module _ (slots : List Slot) where
  written_past : (n c : ℕ) → n ≤ c → written c (writes_below slots n) ≡ None
  written_past zero c l = refl
  written_past (suc n) c l =
      written_else c n (value_kept slots n) (writes_below slots n) (λ e. let f : n ≡ c = e in omega (arith, f, l))
      ∙ written_past n c (omega arith)

  written_below : (n c : ℕ) → c < n → written c (writes_below slots n) ≡ value_kept slots c
  written_below zero c l = absurd (omega arith)
  written_below (suc n) c l = dite (ℕ_discrete c n)
      (λ e. ap (λ (d : ℕ). written d (writes_below slots (suc n))) e
      ∙ (written_here n (value_kept slots n) (writes_below slots n) (written_past n n (omega arith)) ∙ ap (value_kept slots) (sym e)))
      (λ ne. written_else c n (value_kept slots n) (writes_below slots n) (λ e. ne (sym e)) ∙ written_below n c (omega (arith, ne)))

  kept_past : (c : ℕ) → length slots ≤ c → value_kept slots c ≡ None
  kept_past c l = ap (λ (o : Option Slot). option_and_then (λ (s : Slot). s.kept) o) (slice_get_past slots c l)

  -- what is written to a cell is what is kept of it
  pub written_kept : (c : ℕ) → written c (writes_kept slots) ≡ value_kept slots c
  written_kept c = go (cases_lt c (length slots))
    where
      go : (c < length slots) ⊎ (length slots ≤ c) → written c (writes_kept slots) ≡ value_kept slots c
      go (inl l) = written_below (length slots) c l
      go (inr l) = written_past (length slots) c l ∙ sym (kept_past c l)

  has_below : (n c v : ℕ) → Has (c, v) (writes_below slots n) → value_kept slots c ≡ Some v
  has_below zero c v h = absurd h
  has_below (suc n) c v h = go (has_one c v n (value_kept slots n) (writes_below slots n) h) (has_below n c v)
    where
      go : ((n ≡ c) × (value_kept slots n ≡ Some v)) ⊎ Has (c, v) (writes_below slots n)
          → (Has (c, v) (writes_below slots n) → value_kept slots c ≡ Some v) → value_kept slots c ≡ Some v
      go (inl p) ih = ap (value_kept slots) (sym p.0) ∙ p.1
      go (inr h) ih = ih h

  -- each pair that is written was kept
  pub has_kept : (c v : ℕ) → Has (c, v) (writes_kept slots) → value_kept slots c ≡ Some v
  has_kept c v h = has_below (length slots) c v h

-- a cell of such pairs has a value among them
has_cell : (c : ℕ) (ps : Pairs) → Has c (cells_of ps) → (v : ℕ) × Has (c, v) ps
has_cell c [] h = absurd h
has_cell c (p ∷ ps) (inl e) = (p.1, inl (λ j. (e j, p.1)))
has_cell c (p ∷ ps) (inr h) = let more = has_cell c ps h in (more.0, inr more.1)

-- each cell that is to be written below some cell has a value among all the writes
pub cell_written : (slots : List Slot) (n c : ℕ) → Has c (cells_of (writes_below slots n)) → (v : ℕ)
    × (written c (writes_kept slots) ≡ Some v)
cell_written slots n c h =
    let pair = has_cell c (writes_below slots n) h in (pair.0, written_kept slots c ∙ has_below slots n c pair.0 pair.1)

-- the value that is kept of a cell is one of the writes
pub kept_has : (slots : List Slot) (c v : ℕ) → value_kept slots c ≡ Some v → Has (c, v) (writes_kept slots)
kept_has slots c v e = written_has c v (writes_kept slots) (written_kept slots c ∙ e)

-- where nothing is kept nothing is written
pub blank_writes : (slots : List Slot) → IsBlank slots → writes_kept slots ≡ []
blank_writes slots b = no_writes slots (length slots) (λ c l m. (b c).1)

-- where as many cells keep the same values, the same is written
pub same_writes : (slots after : List Slot) → length after ≡ length slots → ((c : ℕ) → value_kept after c ≡ value_kept slots c)
    → writes_kept after ≡ writes_kept slots
same_writes slots after long same = ap (writes_below after) long ∙ below (length slots)
  where
    below : (n : ℕ) → writes_below after n ≡ writes_below slots n
    below zero = refl
    below (suc n) = λ j. with_write n (same n j) (below n j)
