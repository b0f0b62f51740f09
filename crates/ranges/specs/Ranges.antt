-- Ranges of the store: runs of store words that are written once, and the words that name them.
use Rattle.std.specs.Prelude.{◌≡◌, ◌≢◌, ℕ, suc, Bool, true, false, ◌+◌, ◌*◌, ◌/◌, ◌%◌, ◌^◌, ◌<◌, Some, List, [], ◌∷◌, length, take, drop}
use Rattle.std.specs.Prelude.{slice_get, ◌⊎◌}

-- a finished range of the store: where it starts, and its words, which never change again
pub record Range : Type 0 where
  pub start : ℕ
  pub words : List ℕ

-- x stands in the list
abbrev pub Has : {A : Type 0} → A → List A → Type 0
Has x [] = ⊥
Has x (y ∷ ys) = (x ≡ y) ⊎ Has x ys

-- each of these ranges is one of those
abbrev pub Within : List Range → List Range → Type 0
Within ranges more = (r : Range) → Has r ranges → Has r more

-- the word that names a range
abbrev pub word_of : Range → ℕ
word_of r = r.start * 2 ^ 25 + length r.words

-- the word is 0, or names one of the ranges
abbrev pub Names : List Range → ℕ → Type 0
Names ranges word = (word ≡ 0) ⊎ ((r : Range) × Has r ranges × (word ≡ word_of r))

-- the store has the words of the range at its place, and the places are taken
abbrev pub IsStored : ℕ → List ℕ → Range → Type 0
IsStored tail store r = (i w : ℕ) → slice_get r.words i ≡ Some w → (slice_get store (r.start + i) ≡ Some w) × (r.start + i < tail)

-- two of the ranges that share a word of the store have the same value there
abbrev pub AreCoherent : List Range → Type 0
AreCoherent ranges =
    (r q : Range) (i j w v : ℕ) → Has r ranges → Has q ranges → r.start + i ≡ q.start + j
    → slice_get r.words i ≡ Some w → slice_get q.words j ≡ Some v → w ≡ v

-- the ranges are of one store of so many words: each lies in it, and they are coherent
abbrev pub AreOfOneStore : ℕ → List Range → Type 0
AreOfOneStore room ranges = ((r : Range) → Has r ranges → (i : ℕ) → i < length r.words → r.start + i < room) × AreCoherent ranges

-- the range of the store that a word names
abbrev pub range_named : List ℕ → ℕ → Range
range_named store word = record { start = word / 2 ^ 25; words = take (word % 2 ^ 25) (drop (word / 2 ^ 25) store) }

-- the range is one of them where it has words, before the others
abbrev pub with_range : Range → List ℕ → List Range → List Range
with_range r [] rs = rs
with_range r (w ∷ ws) rs = r ∷ rs

-- before the others, what the word names, where the cell is a range cell
abbrev pub with_named : Bool → Range → List Range → List Range
with_named false r rs = rs
with_named true r rs = with_range r r.words rs

-- the ranges of the store that the values of range cells name, from the cell c on
abbrev pub named_from : (ℕ → Bool) → List ℕ → ℕ → List ℕ → List Range
named_from ranged store c [] = []
named_from ranged store c (v ∷ vs) = with_named (ranged c) (range_named store v) (named_from ranged store (suc c) vs)

-- the ranges of an opening: those of the store that the values of its range cells name, none of them empty
abbrev pub ranges_named : (ℕ → Bool) → List ℕ → List ℕ → List Range
ranges_named ranged store values = named_from ranged store 0 values

-- some range cell names it, and it has words
abbrev pub IsNamed : (ℕ → Bool) → List ℕ → List ℕ → Range → Type 0
IsNamed ranged store values r =
    (c : ℕ) × (v : ℕ) × (slice_get values c ≡ Some v) × (ranged c ≡ true) × (r ≡ range_named store v) × (r.words ≢ [])
