-- Paths that are not to lead to one file: what is written never goes over what is read, nor over something else that is written.
use Rattle.std.specs.Prelude.{◌≡◌, ◌⊎◌, ℕ, Bool, true, false, List, [], ◌∷◌, ◌++◌, Option, Some, None}
use Rattle.conduct.specs.Telling.{IsSaid}
use Rattle.outside.specs.Events.{Bytes, Event, compares}

-- two such paths, and the line that says that they do
pub record Clash : Type 0 where
  pub one : Bytes
  pub other : Bytes
  pub line : Bytes

-- it was found, with this line, and nothing follows; or this follows
abbrev pub IsFoundOr : Bool → Bytes → (List Event → Option Bytes → Type 0) → List Event → Option Bytes → Type 0
IsFoundOr true line P es found = (es ≡ []) × (found ≡ Some line)
IsFoundOr false line P es found = P es found

-- it is asked of each whether the paths lead to one file, up to the first that do: its line; equal paths always do
abbrev pub AreCompared : List Clash → List Event → Option Bytes → Type 0
AreCompared [] es line = (es ≡ []) × (line ≡ None)
AreCompared (x ∷ xs) es line =
    (same : Bool) × (rest : List Event) × (es ≡ compares x.one x.other same ∷ rest) × (x.one ≡ x.other → same ≡ true)
    × IsFoundOr same x.line (AreCompared xs) rest line

-- two paths lead to one file, which is said, and nothing else is done; or none do, and this follows
abbrev pub AreApartThen : List Clash → (List Event → ℕ → Type 0) → List Event → ℕ → Type 0
AreApartThen clashes P es status =
    (asked : List Event) × (rest : List Event) × (es ≡ asked ++ rest)
    × (((line : Bytes) × AreCompared clashes asked (Some line) × IsSaid line rest status)
    ⊎ (AreCompared clashes asked None × P rest status))
