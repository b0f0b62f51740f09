-- What a session has staged since its last Committed: which words have a range, and where it starts.
use Rattle.std.specs.Prelude.{◌≡◌, ℕ, List, length, map, Some, Vec}
use Rattle.std.specs.Ordering.{nat_cmp}
use Rattle.std.specs.Cmp.Lexicographic.{slice_cmp}
use Rattle.std.specs.FinMap.{FinMap, get, from_entries}
use Rattle.std.specs.HashMap.{HashMap}
use Rattle.std.specs.declared.alloc.Global.{Global}
use Rattle.std.specs.declared.random_state.RandomState.{RandomState}
use Rattle.ranges.specs.declared.range.Range.{Range as Span}
use Rattle.ranges.specs.Ranges.{Range, Has}

-- from the words of each staged range to where it starts
abbrev pub Staged : Type 0
Staged = FinMap (slice_cmp nat_cmp) ℕ

-- what a map of the code holds
abbrev pub staged_in : HashMap (Vec ℕ Global) ℕ RandomState → Staged
staged_in m = from_entries (map (λ e. (e.0.items, e.1)) m.entries)

-- the range of these words that starts at a place
abbrev pub range_at : List ℕ → ℕ → Span
range_at words start = record { start = start; len = length words }

-- each staged range is one of the ranges, with just its words
pub record AreStaged (ranges : List Range) (stage : Staged) : Type 0 where
  pub among : (words : List ℕ) (start : ℕ) → get stage words ≡ Some start → Has (record { start = start; words = words }) ranges
