-- Where no label changes, each word of a comment reads as it stands.
use Rattle.std.proofs.Common.{◌≡◌, ◌∙◌, ℕ, Bool, true, false, cond, List, [], ◌∷◌, Option, Some, None, refl, ap, append-nil}
use Rattle.std.specs.Prelude.{◌==◌, position}
use Rattle.std.specs.Option.{option_map}
use Rattle.std.proofs.lemmas.List.{take-append-drop}
use Rattle.mmtext.specs.Words.{Word}
use Rattle.commentwords.specs.declared.comment_place.CommentPlace.{CommentPlace}
use Rattle.commentwords.specs.declared.comment_place.CommentPlace.TheVariants.{AtFirst, Described, Typeset, MarkedUp}
use Rattle.commentwords.specs.Words.{is_quote, label_up_to, unquoted, behind_word, relabelled, word_then, words_then}
use Rattle.commentwords.proofs.Unquoted.{parts_at}

parts_same : (b : ℕ) (bs : List ℕ) (end : Option ℕ) → relabelled [] (b ∷ bs) (option_map (parts_at (b ∷ []) bs) end) ≡ b ∷ bs
parts_same b bs None = refl
parts_same b bs (Some n) = ap (λ cs. b ∷ cs) (take-append-drop n bs)

marked_same : (b : ℕ) (bs : List ℕ) (quote : Bool) → relabelled [] (b ∷ bs) (cond quote (label_up_to b bs) None) ≡ b ∷ bs
marked_same b bs true = parts_same b bs (position (λ c. c == b) bs)
marked_same b bs false = refl

unquoted_same : (w : Word) → relabelled [] w (unquoted w) ≡ w
unquoted_same [] = refl
unquoted_same (b ∷ bs) = marked_same b bs (is_quote b)

word_same : (s : CommentPlace) (w : Word) → word_then [] s w ≡ w
word_same AtFirst w = refl
word_same (Described among_symbols true) w = append-nil w
word_same (Described among_symbols false) w = refl
word_same (Typeset true) w = unquoted_same w
word_same (Typeset false) w = refl
word_same MarkedUp w = unquoted_same w

pub words_same : (s : CommentPlace) (ws : List Word) → words_then [] s ws ≡ ws
words_same s [] = refl
words_same s (w ∷ ws) =
    ap (λ v. v ∷ words_then [] (behind_word s w) ws) (word_same s w) ∙ ap (λ vs. w ∷ vs) (words_same (behind_word s w) ws)
