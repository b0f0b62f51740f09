-- The labels of which words in comments of a text speak.
use Rattle.std.specs.Prelude.{◌+◌, ℕ, List, [], ◌∷◌, ◌++◌, length, filter, Option, Some, None, if◌then◌else◌, codes}
use Rattle.std.specs.Str.{bytes_eq}
use Rattle.mmtext.specs.Words.{Word}
use Rattle.mmtext.specs.Text.{Token, tokens}
use Rattle.source.specs.Scopes.{is_in}
use Rattle.commentwords.specs.declared.comment_place.CommentPlace.{CommentPlace}
use Rattle.commentwords.specs.Words.{Parts, at_first, behind_word, parted}

-- the label of a word that begins at a place of a text, as a token of its own
abbrev pub label_from : ℕ → Option Parts → List Token
label_from place None = []
label_from place (Some p) = record { place = place + length p.front; text = p.label } ∷ []

-- those of tokens, before which no comment is open, or one whose words stand so: $( opens one, and $) closes it (section 4.1.2)
abbrev pub labels_from : Option CommentPlace → List Token → List Token
labels_from comment [] = []
labels_from None (t ∷ ts) = if bytes_eq t.text (codes "$(") then labels_from (Some at_first) ts else labels_from None ts
labels_from (Some s) (t ∷ ts) =
    if bytes_eq t.text (codes "$)") then labels_from None ts
    else label_from t.place (parted s t.text) ++ labels_from (Some (behind_word s t.text)) ts

-- those of a text that are among these, in order, in comments inside of statements too
abbrev pub spoken_in : List Word → List ℕ → List Token
spoken_in labels text = filter (λ t. is_in labels t.text) (labels_from None (tokens text))
