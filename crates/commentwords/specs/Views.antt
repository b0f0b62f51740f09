-- Of the code's inside, apart from the rules: how words of comments are seen, and one step of a walk.
use Rattle.std.specs.Prelude.{◌≡◌, ℕ, List, [], ◌∷◌, ◌++◌, drop, Option, Some, None}
use Rattle.mmtext.specs.Text.{Token, tokens_from}
use Rattle.mmtext.specs.declared.token.Token.{Token as CodeToken}
use Rattle.mmtext.specs.Views.{seen}
use Rattle.commentwords.specs.declared.comment_place.CommentPlace.{CommentPlace}
use Rattle.commentwords.specs.declared.parted.Parted.{Parted}
use Rattle.commentwords.specs.declared.reading.Reading.{Reading}
use Rattle.commentwords.specs.Words.{Parts}
use Rattle.commentwords.specs.Spoken.{labels_from}

abbrev pub seen_parts : Parted → Parts
seen_parts p = record { front = p.front.now; label = p.label.now; back = p.back.now }

-- these, one behind the other
abbrev pub whole : Parts → List ℕ
whole p = p.front ++ (p.label ++ p.back)

-- the bytes of a word as it reads
abbrev pub text_of : Reading → List ℕ
text_of r = r.front.now ++ (r.middle.now ++ r.back.now)

-- the tokens from a place of a text on
abbrev pub tokens_at : List ℕ → ℕ → List Token
tokens_at text at = tokens_from at (drop at text)

-- a token, if there is one
abbrev pub seen_if : Option CodeToken → List Token
seen_if None = []
seen_if (Some t) = seen t ∷ []

-- one token more speaks of this label, if of one, and leads there
abbrev pub TakesToken : Option CommentPlace → Token → Option CodeToken → Option CommentPlace → Type 0
TakesToken old t label new = (ts : List Token) → labels_from old (t ∷ ts) ≡ seen_if label ++ labels_from new ts
