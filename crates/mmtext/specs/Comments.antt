-- Comments: the words of a text that stand outside of them (Metamath book, section 4.1.2).
use Rattle.std.specs.Prelude.{Bool, true, false, List, [], ◌∷◌, map, Option, Some, None, if◌then◌else◌, codes}
use Rattle.std.specs.Option.{option_map}
use Rattle.std.specs.Str.{bytes_eq}
use Rattle.mmtext.specs.Text.{Token, has_comment_mark}
use Rattle.mmtext.specs.Words.{Word}

-- the bytes of tokens
abbrev pub words_of : List Token → List Word
words_of ts = map (λ t. t.text) ts

-- the words outside of comments, if each comment is closed. A comment begins at the word $( and ends at the next word $), and no other word
-- in it has $( or $) in it (section 4.1.2). The argument before the words says whether a comment is open before them
abbrev pub without_comments : Bool → List Word → Option (List Word)
without_comments false [] = Some []
without_comments false (w ∷ ws) =
    if bytes_eq w (codes "$(") then without_comments true ws else option_map (λ vs. w ∷ vs) (without_comments false ws)
without_comments true [] = None
without_comments true (w ∷ ws) =
    if bytes_eq w (codes "$)") then without_comments false ws else (if has_comment_mark w then None else without_comments true ws)
