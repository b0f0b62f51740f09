-- The words in comments of a text that are labels, though they speak of none.
use Rattle.std.specs.Prelude.{◌≡◌, ℕ, List, [], ◌∷◌, ◌++◌, filter, Option, Some, None, if◌then◌else◌, codes}
use Rattle.std.specs.Str.{bytes_eq}
use Rattle.mmtext.specs.Words.{Word}
use Rattle.mmtext.specs.Text.{Token, tokens}
use Rattle.source.specs.Scopes.{is_in}
use Rattle.commentwords.specs.declared.comment_place.CommentPlace.{CommentPlace}
use Rattle.commentwords.specs.Words.{Parts, at_first, behind_word, parted}
use Rattle.commentwords.specs.Views.{seen_if}
use Rattle.mmtext.specs.declared.token.Token.{Token as CodeToken}

-- a word of a comment, unless it speaks of a label
abbrev pub silent_word : Token → Option Parts → List Token
silent_word t None = t ∷ []
silent_word t (Some p) = []

-- those of tokens, before which no comment is open, or one whose words stand so: $( opens one, and $) closes it (section 4.1.2)
abbrev pub silent_from : Option CommentPlace → List Token → List Token
silent_from comment [] = []
silent_from None (t ∷ ts) = if bytes_eq t.text (codes "$(") then silent_from (Some at_first) ts else silent_from None ts
silent_from (Some s) (t ∷ ts) =
    if bytes_eq t.text (codes "$)") then silent_from None ts
    else silent_word t (parted s t.text) ++ silent_from (Some (behind_word s t.text)) ts

-- those of a text that are just one of these labels, in order, in comments inside of statements too
abbrev pub mentioned_in : List Word → List ℕ → List Token
mentioned_in labels text = filter (λ t. is_in labels t.text) (silent_from None (tokens text))

-- of the code's inside: one token more is this word of a comment, which speaks of no label, if it is one, and leads there
abbrev pub PassesToken : Option CommentPlace → Token → Option CodeToken → Option CommentPlace → Type 0
PassesToken old t word new = (ts : List Token) → silent_from old (t ∷ ts) ≡ seen_if word ++ silent_from new ts
