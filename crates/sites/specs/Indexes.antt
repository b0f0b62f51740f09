-- Of the code's inside, apart from the rules: what maps from words find.
use Rattle.std.specs.Prelude.{◌≡◌, ◌≤◌, ℕ, List, length, Option}
use Rattle.std.specs.Borrow.{Bor}
use Rattle.std.specs.Str.{bytes_eq}
use Rattle.std.specs.HashMap.{HashMap, get_by}
use Rattle.std.specs.declared.random_state.RandomState.{RandomState}
use Rattle.mmtext.specs.Words.{Word}
use Rattle.mmsyntax.specs.Tables.{place_of}
use Rattle.mmsyntax.specs.declared.limits.TheConstants.{MOST_DECLARED}

-- what a map has at a word
abbrev pub looks_up : {X : Type 0} → HashMap (Bor (List ℕ)) X RandomState → Word → Option X
looks_up m w = get_by (λ k. bytes_eq w k.now) m

-- a map finds the first place of each word
abbrev pub FindsPlaces : HashMap (Bor (List ℕ)) ℕ RandomState → List Word → Type 0
FindsPlaces m ws = (w : Word) → looks_up m w ≡ place_of (bytes_eq w) ws

-- the profile has room for these constants and $f
pub record HasRoom (constants floats : List Word) : Type 0 where
  pub few_constants : length constants ≤ MOST_DECLARED
  pub few_floats : length floats ≤ MOST_DECLARED
