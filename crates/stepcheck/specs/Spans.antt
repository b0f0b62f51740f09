-- Of the code's inside, apart from the rules: expressions that lie in one list of symbols, each from a place to another, or elsewhere.
use Rattle.std.specs.Prelude.{ℕ, ◌<◌, ◌≤◌, List, All, length, map, slice_range, slice_index_or}
use Rattle.mmsyntax.specs.declared.statement.Symbol.{Symbol}
use Rattle.stepcheck.specs.declared.stack.Entry.{Entry}
use Rattle.stepcheck.specs.declared.stack.Entry.TheVariants.{Own, Lent}

-- the expression of an entry
abbrev pub shown : List Symbol → Entry → List Symbol
shown symbols (Own a b) = slice_range symbols a b
shown symbols (Lent a e) = e.now

-- which part of the symbols it has: of a lent one none, behind those below
abbrev pub start : Entry → ℕ
start (Own a b) = a
start (Lent a e) = a

abbrev pub end : Entry → ℕ
end (Own a b) = b
end (Lent a e) = a

-- the expressions of entries
abbrev pub cut : List Symbol → List Entry → List (List Symbol)
cut symbols entries = map (shown symbols) entries

-- each part is one of so many symbols
abbrev pub AreWithin : ℕ → List Entry → Type 0
AreWithin n entries = All (λ e. (start e ≤ end e) × (end e ≤ n)) entries

-- and none begins before an earlier one ends
pub record AreSpans (n : ℕ) (entries : List Entry) : Type 0 where
  pub within : AreWithin n entries
  pub apart : (j k : ℕ) (d : Entry) → j < k → k < length entries → end (slice_index_or entries j d) ≤ start (slice_index_or entries k d)
