-- Laws of ranges, for whoever keeps them.
use Rattle.std.specs.Prelude.{◌≡◌, ◌↔◌, ℕ, Bool, ◌^◌, ◌<◌, ◌≤◌, List, ◌++◌, length}
use Rattle.ranges.specs.Ranges.{Range, Has, Within, word_of, Names, IsStored, AreCoherent, AreOfOneStore, ranges_named, IsNamed}

-- ranges that are stored in one store are coherent
abbrev pub StoredAreCoherent : Type 0
StoredAreCoherent =
    (tail : ℕ) (store : List ℕ) (ranges : List Range) → ((r : Range) → Has r ranges → IsStored tail store r) → AreCoherent ranges

-- two coherent ranges of fewer than 2^25 words that the same word names are the same
abbrev pub WordsNameOne : Type 0
WordsNameOne =
    (ranges : List Range) (r q : Range) → AreCoherent ranges → Has r ranges → Has q ranges
    → length r.words < 2 ^ 25 → length q.words < 2 ^ 25 → word_of r ≡ word_of q → r ≡ q

-- a word that names a range goes on to name it where there are more
abbrev pub NamesLast : Type 0
NamesLast = (ranges more : List Range) (word : ℕ) → Within ranges more → Names ranges word → Names more word

-- the ranges of an opening are exactly those that its range cells name, but empty ones
abbrev pub NamesItsRanges : Type 0
NamesItsRanges =
    (ranged : ℕ → Bool) (store values : List ℕ) (r : Range) → Has r (ranges_named ranged store values) ↔ IsNamed ranged store values r

-- they are stored, whatever stands behind the words of the store
abbrev pub NamedAreStored : Type 0
NamedAreStored =
    (ranged : ℕ → Bool) (store values more : List ℕ) (r : Range) → Has r (ranges_named ranged store values)
    → IsStored (length store) (store ++ more) r

-- they are of one store, of any room that the words of the store fit into
abbrev pub NamedAreOfOneStore : Type 0
NamedAreOfOneStore =
    (ranged : ℕ → Bool) (store values : List ℕ) (room : ℕ) → length store ≤ room → AreOfOneStore room (ranges_named ranged store values)
