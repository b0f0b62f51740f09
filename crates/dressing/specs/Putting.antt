-- Of the code's inside, apart from the rules: what is put of an item, word by word.
use Rattle.std.specs.Prelude.{ℕ, Bool, true, false, List, [], ◌∷◌, ◌++◌, Option, Some, None, if◌then◌else◌, codes}
use Rattle.std.specs.Str.{bytes_eq}
use mathlib.Core.Bool.{not}
use Rattle.mmtext.specs.Words.{Word}
use Rattle.giving.specs.Staying.{Change, changed}
use Rattle.items.specs.Items.{Item}

-- a word, where a comment is open or not
abbrev pub word_then : List Change → Bool → Word → Word
word_then cs true w = w
word_then cs false w = if bytes_eq w (codes "$(") then w else changed cs w

-- whether one is open behind it
abbrev pub opens_behind : Bool → Word → Bool
opens_behind true w = not (bytes_eq w (codes "$)"))
opens_behind false w = bytes_eq w (codes "$(")

-- a given proof stands right behind $=
abbrev pub proof_behind : Option (List ℕ) → Bool → Word → Option (List ℕ)
proof_behind proof true w = None
proof_behind proof false w = if bytes_eq w (codes "$=") then proof else None

-- and ends the item; else these bytes follow
abbrev pub ended_by : Option (List ℕ) → List ℕ → List ℕ
ended_by None bytes = bytes
ended_by (Some text) bytes = text ++ codes "$."

abbrev pub put_from : List Change → Option (List ℕ) → Bool → Item → List ℕ
put_from cs proof is_open [] = []
put_from cs proof is_open (p ∷ ps) =
    p.space
    ++ (word_then cs is_open p.word
    ++ ended_by (proof_behind proof is_open p.word) (put_from cs proof (opens_behind is_open p.word) ps))
