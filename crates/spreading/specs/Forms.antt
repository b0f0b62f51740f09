-- Which words of a script belong to one command, as its word says: `docs/MANUAL.md` has the commands. Where a script isn't one, these are
-- the words up to its fault, and some behind it.
use Rattle.std.specs.Prelude.{◌≡◌, ℕ, suc, Bool, false, ◌||◌, ◌+◌, List, [], ◌∷◌, ◌++◌, take, drop, Option, Some, None, if◌then◌else◌, codes}
use Rattle.mmtext.specs.Text.{Token}
use Rattle.mmtext.specs.Words.{Word}
use Rattle.spreading.specs.Words.{says}

-- ---- how many words

-- those up to the first that is this one, with it; all where none is
abbrev pub up_to : Word → List Token → ℕ
up_to w [] = 0
up_to w (t ∷ ts) = if says t w then 1 else suc (up_to w ts)

-- an assertion: a block up to its end, or a statement up to its own
abbrev pub unit_length : List Token → ℕ
unit_length [] = 0
unit_length (t ∷ ts) = if says t (codes "${") then up_to (codes "$}") (t ∷ ts) else up_to (codes "$.") (t ∷ ts)

-- `behind` or `before`, and then a label, say where something is put
abbrev pub is_beside : Token → Bool
is_beside t = says t (codes "behind") || says t (codes "before")

-- where something is put: so, or by a number
abbrev pub place_length : List Token → ℕ
place_length [] = 0
place_length (t ∷ ts) = if is_beside t then 2 else 1

-- behind the word of a command; a word that is none stands alone
abbrev pub behind_word : Token → List Token → ℕ
behind_word t ts =
    if says t (codes "add") then place_length ts + unit_length (drop (place_length ts) ts) else (
    if says t (codes "move") then 1 + place_length (drop 1 ts) else (
    if says t (codes "reprove") then up_to (codes "$.") ts else (
    if says t (codes "replace") then 3 else (
    if says t (codes "rename") then 2 else (
    if says t (codes "delete") || says t (codes "show") then 1 else 0)))))

-- ---- parts

-- the words of a command, or one that stands alone
abbrev pub Part : Type 0
Part = List Token

-- words in their parts, in order
abbrev pub AreParts : List Token → List Part → Type 0
AreParts ts [] = ts ≡ []
AreParts [] (p ∷ ps) = ⊥
AreParts (t ∷ ts) (p ∷ ps) = (p ≡ t ∷ take (behind_word t ts) ts) × AreParts (drop (behind_word t ts) ts) ps

-- the word of a command, or the one that stands alone, is this one
abbrev pub begins_with : Word → Part → Bool
begins_with w [] = false
begins_with w (t ∷ ts) = says t w

-- how many words of a command stand in front of those that say where something is put, if it puts something
abbrev pub words_before_place : Part → Option ℕ
words_before_place [] = None
words_before_place (t ∷ ts) = if says t (codes "add") then Some 1 else (if says t (codes "move") then Some 2 else None)

-- a command with other words from there on
abbrev pub placed_at : Option ℕ → (List Token → List Token) → Part → List Token
placed_at None change p = p
placed_at (Some n) change p = take n p ++ change (drop n p)

-- where a transaction begins
abbrev pub beginning_of : Part → Option ℕ
beginning_of [] = None
beginning_of (t ∷ ts) = if says t (codes "begin") then Some t.place else None
