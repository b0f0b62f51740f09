-- Items with changed labels: labels of assertions, where these are stated, where proofs name them, and where words of comments speak of
-- them; all else stays.
use Rattle.std.specs.Prelude.{List, [], ◌∷◌, map, zip, drop, Option, Some, None, if◌then◌else◌, codes}
use Rattle.std.specs.Str.{bytes_eq}
use Rattle.mmtext.specs.Words.{Word}
use Rattle.giving.specs.Staying.{Change, changed}
use Rattle.commentwords.specs.declared.comment_place.CommentPlace.{CommentPlace}
use Rattle.commentwords.specs.Words.{at_first, behind_word, word_then}
use Rattle.items.specs.Items.{Item, words, said, asserts}

-- ---- in statements, of the words outside of comments

-- behind the ( of a compressed proof stand labels up to ), and then letters, which stay (appendix B)
abbrev pub labels_then : List Change → List Word → List Word
labels_then cs [] = []
labels_then cs (w ∷ ws) = if bytes_eq w (codes ")") then w ∷ ws else changed cs w ∷ labels_then cs ws

-- a proof is labels, or labels in parentheses and letters (section 4.2.8, appendix B)
abbrev pub proof_then : List Change → List Word → List Word
proof_then cs [] = []
proof_then cs (w ∷ ws) = if bytes_eq w (codes "(") then w ∷ labels_then cs ws else changed cs w ∷ map (changed cs) ws

-- symbols stay up to $=, behind which a proof stands
abbrev pub symbols_then : List Change → List Word → List Word
symbols_then cs [] = []
symbols_then cs (w ∷ ws) = if bytes_eq w (codes "$=") then w ∷ proof_then cs ws else w ∷ symbols_then cs ws

-- an assertion has a label, and names labels in its proof; every other statement stays
abbrev pub said_then : List Change → List Word → List Word
said_then cs (label ∷ mark ∷ ws) = if asserts mark then changed cs label ∷ mark ∷ symbols_then cs ws else label ∷ mark ∷ ws
said_then cs ws = ws

-- ---- items

-- the first of some words, or else this one
abbrev pub first_or : Word → List Word → Word
first_or w [] = w
first_or w (v ∷ vs) = v

-- words of an item, in a comment or outside of them: outside stand these words then, one by one
abbrev pub reworded : List Change → Option CommentPlace → List Word → List Word → List Word
reworded cs place others [] = []
reworded cs None others (w ∷ ws) =
    if bytes_eq w (codes "$(") then w ∷ reworded cs (Some at_first) others ws else first_or w others ∷ reworded cs None (drop 1 others) ws
reworded cs (Some s) others (w ∷ ws) =
    if bytes_eq w (codes "$)") then w ∷ reworded cs None others ws else word_then cs s w ∷ reworded cs (Some (behind_word s w)) others ws

-- the same white space, and other words
abbrev pub with_words : Item → List Word → Item
with_words x ws = map (λ p. record { space = p.0.space; word = p.1 }) (zip x ws)

abbrev pub renamed : List Change → Item → Item
renamed cs x = with_words x (reworded cs None (said_then cs (said x)) (words x))
