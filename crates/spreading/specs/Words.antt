-- The words of a script with their places, and the text of words that stand for them.
use Rattle.std.specs.Prelude.{ℕ, suc, Bool, nat_le, ◌-◌, List, [], ◌∷◌, ◌++◌, length, Ok, Some, if◌then◌else◌}
use Rattle.std.specs.List.{flat_map}
use Rattle.std.specs.Str.{bytes_eq}
use Rattle.mmtext.specs.Words.{Word}
use Rattle.mmtext.specs.Text.{Token}
use Rattle.mmtext.specs.Languages.{Language}
use Rattle.mmsyntax.specs.declared.limits.TheConstants.{MOST_BYTES}

-- a word is this one
abbrev pub says : Token → Word → Bool
says t w = bytes_eq t.text w

-- a word that stands at a place of a script in the stead of another
abbrev pub word_at : ℕ → Word → Token
word_at place w = record { place = place; text = w }

-- texts with comments, which say the words that stand outside of them (Metamath book, section 4.1.2)
abbrev pub word_language : Language (List Token) (List Token)
word_language = record { most_bytes = MOST_BYTES; start = []; row = λ ts t. Ok (ts ++ t ∷ []); said = λ ts. Some ts }

-- words as a text: each, and a blank behind it
abbrev pub text_of : List Token → List ℕ
text_of ts = flat_map (λ t. t.text ++ 32 ∷ []) ts

-- the place in a script of the word in which, or behind which, a byte of such a text stands; behind all of them the end of the script
abbrev pub place_at : List Token → ℕ → ℕ → ℕ
place_at [] end byte = end
place_at (t ∷ ts) end byte = if nat_le byte (length t.text) then t.place else place_at ts end (byte - suc (length t.text))
