-- Fresh names: a name that the profile doesn't allow is changed to the first candidate that is free.
use Rattle.std.specs.Prelude.{◌≡◌, ◌≢◌, ◌<◌, ◌≤◌, ◌-◌, ℕ, Bool, true, false, List, [], ◌∷◌, ◌++◌, ◌==◌, ◌&&◌, length, map, take, find}
use Rattle.std.specs.Prelude.{Option, Some, if◌then◌else◌, slice_index_or, IsTrue}
use mathlib.Core.Bool.{not}
use Rattle.std.specs.Str.{bytes_eq}
use Rattle.std.specs.Fmt.{decimal}
use Rattle.std.specs.List.{range_with_len}
use Rattle.mmtext.specs.Words.{Word}
use Rattle.mmsyntax.specs.declared.limits.TheConstants.{MOST_NAME_BYTES}
use Rattle.source.specs.Scopes.{is_in}
use Rattle.taking.specs.declared.fresh.Unnamed.{Unnamed}
use Rattle.taking.specs.declared.fresh.Unnamed.TheVariants.{NoFreshName, NoMemory}

-- a word with _ at each dot
abbrev pub undotted : Word → Word
undotted w = map (λ b. if b == 46 then 95 else b) w

-- what stands behind a word in a candidate: nothing, or _1, _2, ..
abbrev pub tail : ℕ → Word
tail k = if k == 0 then [] else 95 ∷ decimal k

-- the word without dots, cut so that a name has room for what stands behind it, and that
abbrev pub candidate : Word → ℕ → Word
candidate w k = undotted (take (MOST_NAME_BYTES - length (tail k)) w) ++ tail k

-- so none of the thousand is longer than a name (a rule of the profile)
abbrev pub CandidatesFit : Type 0
CandidatesFit = (w : Word) (k : ℕ) → k < 1000 → length (candidate w k) ≤ MOST_NAME_BYTES

-- the first of a thousand candidates that is free
unfoldable pub fresh : (Word → Bool) → Word → Option Word
fresh is_free w = find is_free (map (candidate w) (range_with_len 0 1000))

-- the name in the library: a fresh one where it changes, and else the same
abbrev pub renamed_by : (Word → Bool) → Bool → Word → Option Word
renamed_by is_free changes w = if changes then fresh is_free w else Some w

-- ---- names of several words

-- a name that changes was free, and each other is kept
abbrev pub is_named_by : (Word → Bool) → Bool → Word → Word → Bool
is_named_by is_free changes w name = if changes then is_free name else bytes_eq w name

-- so are all, and one that changes differs from the earlier ones
pub record AreGiven (is_free : Word → Bool) (changes : List Bool) (words names : List Word) : Type 0 where
  pub as_many : length names ≡ length words
  pub named : (k : ℕ) → k < length words
      → IsTrue (is_named_by is_free (slice_index_or changes k false) (slice_index_or words k []) (slice_index_or names k []))
  pub apart : (j k : ℕ) → j < k → k < length words → slice_index_or changes k false ≡ true
      → slice_index_or names j [] ≢ slice_index_or names k []

-- what is free beside names that were given: it was free before, and is none of them
abbrev pub beside : (Word → Bool) → List Word → Word → Bool
beside is_free names w = is_free w && not (is_in names w)

abbrev pub AreLeft : (before behind : Word → Bool) → List Word → Type 0
AreLeft before behind names = (w : Word) → behind w ≡ beside before names w

-- ---- a word without a name

-- a word changes, and no candidate of it is free beside the names that the words in front of it were given
pub record IsRefused (is_free : Word → Bool) (changes : List Bool) (words : List Word) (word : Word) : Type 0 where
  pub place : ℕ
  pub within : place < length words
  pub stands_there : slice_index_or words place [] ≡ word
  pub changing : slice_index_or changes place false ≡ true
  pub names : List Word
  pub given : AreGiven is_free changes (take place words) names
  pub none_free : (k : ℕ) → k < 1000 → beside is_free names (candidate word k) ≡ false

-- why some words have no names: one of them is refused, or memory ran out
abbrev pub AreRefused : (Word → Bool) → List Bool → List Word → Unnamed → Type 0
AreRefused is_free changes words (NoFreshName word) = IsRefused is_free changes words word.now
AreRefused is_free changes words NoMemory = Unit {0}
