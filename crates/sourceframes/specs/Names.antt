-- Of the code's inside, apart from the rules: the numbers of words.
use Rattle.std.specs.Prelude.{◌≡◌, ◌↔◌, ℕ, suc, ◌+◌, List, [], ◌∷◌, ◌++◌, length, replicate, slice_get, slice_index_or, Option, Some}
use Rattle.std.specs.HashMap.{HashMap, get_by}
use Rattle.std.specs.Borrow.{Bor}
use Rattle.std.specs.Str.{bytes_eq}
use Rattle.wordkeys.specs.declared.keys.WordKeys.{WordKeys}
use Rattle.mmtext.specs.Words.{Word}
use Rattle.source.specs.Views.{seen_words}
use Rattle.sourceframes.specs.declared.table.Table.{Table}

-- what a map has for a word
abbrev pub looks_up : HashMap (Bor (List ℕ)) ℕ WordKeys → Word → Option ℕ
looks_up numbers w = get_by (λ k. bytes_eq w k.now) numbers

-- a map has the words of a list, each by its place
abbrev pub IsTable : HashMap (Bor (List ℕ)) ℕ WordKeys → List Word → Type 0
IsTable numbers words = (w : Word) (n : ℕ) → (looks_up numbers w ≡ Some n) ↔ (slice_get words n ≡ Some w)

abbrev pub words_of : Table → List Word
words_of t = seen_words t.words.items

abbrev pub IsSound : Table → Type 0
IsSound t = IsTable t.numbers (words_of t)

-- more words behind those that were there
abbrev pub Grows : List Word → List Word → Type 0
Grows old new = (more : List Word) × (new ≡ old ++ more)

abbrev pub total : List Word → ℕ
total [] = 0
total (w ∷ ws) = length w + total ws

-- the word of each number: a number of no word has a long one of its own, so that each word has one number at most
abbrev pub name_in : List Word → ℕ → Word
name_in words n = slice_index_or words n (replicate (suc (total words + n)) 0)

-- what is so of the words of numbers, and stays so behind more words
abbrev pub Lasts : List Word → ((ℕ → Word) → Type 0) → Type 0
Lasts words P = (more : List Word) → P (name_in (words ++ more))

-- a table that is sound has more words, or as many
pub record Keeps (old new : Table) : Type 0 where
  pub sound : IsSound new
  pub grows : Grows (words_of old) (words_of new)
