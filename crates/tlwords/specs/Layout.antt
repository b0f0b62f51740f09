-- Where the words of a memory lie in its table.
--
-- The spare word is only loaded, for what is no step of the machine. Then come the clock, and of each cell the lock word and the value word
-- side by side: the front. Behind it lie the tail of the store, which is the number of its words that are taken, and the store's words.
--
-- Seven words that are never used stand before and behind the clock, and before and behind the tail. A line of the cache is eight words, so
-- that each of the two has one for itself, wherever in the table a line begins.
use Rattle.std.specs.Prelude.{ℕ, ◌+◌, ◌*◌, List, [], ◌∷◌, ◌++◌}
use Rattle.tlcore.specs.Machine.{World}
use Rattle.tlcore.specs.declared.cells.Cell.{Cell}

-- ---- where a word is

abbrev pub clock_at : ℕ
clock_at = 8

-- the words of the cell c
abbrev pub lock_at : ℕ → ℕ
lock_at c = 2 * c + 16

abbrev pub value_at : ℕ → ℕ
value_at c = 2 * c + 17

-- how many words the front of n cells has
abbrev pub front_size : ℕ → ℕ
front_size n = 2 * n + 16

-- the tail, and the word o of the store, behind n cells
abbrev pub tail_at : ℕ → ℕ
tail_at n = 2 * n + 23

abbrev pub store_at : ℕ → ℕ → ℕ
store_at n o = 2 * n + 31 + o

-- ---- which words they are

abbrev pub unused : List ℕ
unused = 0 ∷ 0 ∷ 0 ∷ 0 ∷ 0 ∷ 0 ∷ 0 ∷ []

-- the lock word and the value word of each cell
abbrev pub paired : List Cell → List ℕ
paired [] = []
paired (x ∷ xs) = x.lock ∷ x.value ∷ paired xs

-- the same before the first step, of the values
abbrev pub opening_words : List ℕ → List ℕ
opening_words [] = []
opening_words (v ∷ vs) = 0 ∷ v ∷ opening_words vs

-- the front: the spare word, the clock, and the cells' words
abbrev pub front_of : ℕ → List ℕ → List ℕ
front_of clock cells = 0 ∷ (unused ++ clock ∷ (unused ++ cells))

abbrev pub words_of : World → List ℕ
words_of w = front_of w.clock (paired w.cells)

-- what is behind the front
abbrev pub shelf_of : ℕ → List ℕ → List ℕ
shelf_of tail store = unused ++ tail ∷ (unused ++ store)
