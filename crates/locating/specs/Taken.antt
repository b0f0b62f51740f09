-- Where a name was declared that is taken at a place of a source, by the words in front of it (Metamath book, sections 4.1.3 and 4.2).
use Rattle.std.specs.Prelude.{ℕ, suc, pred, Bool, false, ◌||◌, ◌&&◌, ◌==◌, List, [], ◌∷◌, ◌++◌, reverse, find, Option, codes}
use Rattle.std.specs.Prelude.{if◌then◌else◌}
use Rattle.std.specs.Option.{option_map}
use Rattle.mmtext.specs.Words.{Word}
use Rattle.mmtext.specs.Text.{Token}
use Rattle.locating.specs.Fronts.{says, front_of, follows_label}

-- a word with those in front of it and those behind it
pub record Spoken : Type 0 where
  pub front : List Token
  pub word : Token
  pub behind : List Token

-- each of some words, behind others
abbrev pub spoken_behind : List Token → List Token → List Spoken
spoken_behind front [] = []
spoken_behind front (t ∷ ts) = record { front = front; word = t; behind = ts } ∷ spoken_behind (front ++ t ∷ []) ts

abbrev pub spoken : List Token → List Spoken
spoken ts = spoken_behind [] ts

-- ---- what declares

-- a label stands right in front of $f, $e, $a or $p
abbrev pub is_led : List Token → Bool
is_led [] = false
is_led (t ∷ ts) = follows_label t

-- a symbol stands in a $c or $v, which begins so
abbrev pub lists_symbols : List Token → Bool
lists_symbols [] = false
lists_symbols (t ∷ ts) = says (codes "$c") t || says (codes "$v") t

-- the variable of a $f stands behind its label, its keyword and its type
abbrev pub is_float_front : List Token → Bool
is_float_front (label ∷ keyword ∷ t ∷ []) = says (codes "$f") keyword
is_float_front _ = false

abbrev pub declares_label : Spoken → Bool
declares_label s = is_led s.behind

abbrev pub declares_symbol : Spoken → Bool
declares_symbol s = lists_symbols (front_of s.front)

abbrev pub has_type : Spoken → Bool
has_type s = is_float_front (front_of s.front)

-- ---- blocks

-- how many blocks are closed by a word and others that close so many
abbrev pub closed_with : Token → ℕ → ℕ
closed_with t n = if says (codes "$}") t then suc n else (if says (codes "${") t then pred n else n)

-- how many of the blocks that are open in front of words they close
abbrev pub closed_by : List Token → ℕ
closed_by [] = 0
closed_by (t ∷ ts) = closed_with t (closed_by ts)

-- the block of a word is still open behind the words behind it
abbrev pub is_open : Spoken → Bool
is_open s = closed_by s.behind == 0

-- ---- what makes a name taken

-- a label, and a symbol of a $c, count for ever; a symbol of a $v where its block is open
abbrev pub is_declared : Spoken → Bool
is_declared s = declares_label s || (declares_symbol s && is_open s)

abbrev pub is_typed : Spoken → Bool
is_typed s = has_type s && is_open s

-- for a label or a constant: the first word that declares it, also in a closed block
abbrev pub first_declared : Word → List Token → Option Token
first_declared w ts =
    option_map (λ s. s.word) (find (λ s. says w s.word && (declares_label s || declares_symbol s)) (spoken ts))

-- for a variable: the last one that counts here
abbrev pub last_declared : Word → List Token → Option Token
last_declared w ts = option_map (λ s. s.word) (find (λ s. says w s.word && is_declared s) (reverse (spoken ts)))

-- for the variable of a $f: that of the last $f that is active here
abbrev pub last_typed : Word → List Token → Option Token
last_typed w ts = option_map (λ s. s.word) (find (λ s. says w s.word && is_typed s) (reverse (spoken ts)))
