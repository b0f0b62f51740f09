-- What assertions may be called while scripts run. Nobody knows beforehand in which order the commands of several scripts are done, nor
-- which of them are. So an assertion may be called each label to which their commands `rename` lead from its own, in any order and however
-- often.
use Rattle.std.specs.Prelude.{◌≡◌, ◌≢◌, Bool, true, false, List, [], ◌∷◌, filter, filter_map, map, Contains, IsTrue, Option, Some, None, if◌then◌else◌, codes}
use Rattle.std.specs.Str.{bytes_eq}
use Rattle.mmtext.specs.Words.{Word}
use Rattle.spreading.specs.Words.{says}
use Rattle.spreading.specs.Forms.{Part}
use Rattle.expanding.specs.Commands.{Command}

-- ---- renames

-- `rename OLD NEW`: both labels
abbrev pub rename_of : Part → Option (Word × Word)
rename_of (verb ∷ old ∷ new ∷ []) = if says verb (codes "rename") then Some (old.text, new.text) else None
rename_of _ = None

abbrev pub renames : List Command → List (Word × Word)
renames cs = filter_map (λ c. rename_of c.words) cs

-- what they make of a label
abbrev pub new_labels : List (Word × Word) → Word → List Word
new_labels rs old = map (λ r. r.1) (filter (λ r. bytes_eq old r.0) rs)

-- labels in a row, each of which a rename makes of the one before it, from a first one to a last one
abbrev pub Lead : List (Word × Word) → Word → List Word → Word → Type 0
Lead rs from [] to = from ≡ to
Lead rs from (next ∷ row) to = Contains (new_labels rs from) next × Lead rs next row to

-- what has a label may be called so: by that label itself, or behind some renames
pub record MayBeCalled (rs : List (Word × Word)) (label word : Word) : Type 0 where
  pub row : List Word
  pub lead : Lead rs label row word

-- ---- who may have a label

-- of some assertions, each known by its first label
pub data Bearers : Type 0 where
  nobody : Bearers
  only : Word → Bearers
  several : Bearers

-- those that a label passes a test may be called so: none of them, just one, or two at least
abbrev pub AreBearers : List (Word × Word) → (Word → Bool) → Word → Bearers → Type 0
AreBearers rs test w nobody = (a : Word) → IsTrue (test a) → MayBeCalled rs a w → ⊥
AreBearers rs test w (only a) =
    IsTrue (test a) × MayBeCalled rs a w × ((b : Word) → IsTrue (test b) → MayBeCalled rs b w → b ≡ a)
AreBearers rs test w several =
    (a : Word) × (b : Word) × IsTrue (test a) × MayBeCalled rs a w × IsTrue (test b) × MayBeCalled rs b w × (a ≢ b)

-- some may
abbrev pub is_borne : Bearers → Bool
is_borne nobody = false
is_borne _ = true
