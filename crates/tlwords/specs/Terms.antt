-- The terms of a memory: which transactions are lawful, of which opening, and which cells hold words that name ranges.
use Rattle.std.specs.Prelude.{◌≡◌, ℕ, Bool, true, List, Some, slice_get}
use Rattle.ranges.specs.Pairs.{Pairs}
use Rattle.ranges.specs.Ranges.{Range, Has, Within, Names}

pub record Terms (S N : Type 0) : Type 1 where
  -- of the setting, finished ranges of the store, what is read, what is written, and the note
  pub lawful : S → List Range → Pairs → Pairs → N → Type 0
  -- of the setting, the ranges of the opening, and the opening values
  pub opens : S → List Range → List ℕ → Type 0
  -- of the setting, and a cell: whether it is to hold 0 or a word that names a range
  pub ranged : S → ℕ → Bool

module _ {S N : Type 0} (terms : Terms S N) (setting : S) (ranges : List Range) where
  -- the transaction is lawful for some of these ranges, and in range cells it writes 0 or words that name such ranges
  pub record Permits (reads writes : Pairs) (note : N) : Type 0 where
    pub some : List Range
    pub among : Within some ranges
    pub lawful : terms.lawful setting some reads writes note
    pub named : (c v : ℕ) → Has (c, v) writes → terms.ranged setting c ≡ true → Names ranges v

  -- these are the opening values, for some of these ranges
  pub record Opened (base : List ℕ) : Type 0 where
    pub some : List Range
    pub among : Within some ranges
    pub opens : terms.opens setting some base

-- in range cells the opening values are 0 or words that name ranges
abbrev pub AreNamed : {S N : Type 0} → Terms S N → S → List Range → List ℕ → Type 0
AreNamed terms setting ranges values = (c v : ℕ) → slice_get values c ≡ Some v → terms.ranged setting c ≡ true → Names ranges v
