-- A state of the cells: the value of each cell, and the finished ranges of the store with their words.
use Rattle.std.specs.Prelude.{◌≡◌, ◌≢◌, ℕ, List, [], ◌∷◌, Option, Some, None, ◌==◌, if◌then◌else◌}
use Rattle.ranges.specs.Pairs.{Pairs, written}
use Rattle.ranges.specs.Ranges.{Range, Has, word_of}

pub record State : Type 0 where
  pub value : ℕ → ℕ
  pub ranges : List Range

-- the most words of a store: 2^24
abbrev pub most_words : ℕ
most_words = 16777216

-- the cell names a finished range that has these words, of which there is at least one; so 0 names none
pub record HasBody (st : State) (cell : ℕ) (words : List ℕ) : Type 0 where
  pub start : ℕ
  pub finished : Has (record { start = start; words = words }) st.ranges
  pub named : st.value cell ≡ word_of (record { start = start; words = words })
  pub some : words ≢ []

-- each value that was read is that of its cell
abbrev pub FitsReads : State → Pairs → Type 0
FitsReads st [] = Unit {0}
FitsReads st (r ∷ rs) = (st.value r.0 ≡ r.1) × FitsReads st rs

abbrev pub value_or : Option ℕ → ℕ → ℕ
value_or None v = v
value_or (Some x) v = x

-- the state in which cells that are written have what is written
abbrev pub with_writes : State → Pairs → State
with_writes st writes = record st { value = λ c. value_or (written c writes) (st.value c) }

-- the state with another value in one cell
abbrev pub with_value : ℕ → ℕ → State → State
with_value cell v st = record st { value = λ c. if c == cell then v else st.value c }
