-- How the words of a comment read, one more at a time.
use Rattle.std.proofs.Common.{◌≡◌, ◌∙◌, ℕ, List, [], ◌∷◌, ◌++◌, refl, sym, ap}
use Rattle.std.proofs.lemmas.List.{flat_map_more}
use Rattle.mmtext.specs.Words.{Word}
use Rattle.giving.specs.Staying.{Change}
use Rattle.commentwords.specs.declared.comment_place.CommentPlace.{CommentPlace}
use Rattle.commentwords.specs.Words.{behind_word, word_then, words_then, at_first}
use Rattle.comments.specs.Comments.{with_space, reading}
use Rattle.comments.specs.Gathered.{standing_behind}

standing-push : (s : CommentPlace) (ws : List Word) (w : Word) → standing_behind s (ws ++ w ∷ []) ≡ behind_word (standing_behind s ws) w
standing-push s [] w = refl
standing-push s (v ∷ ws) w = standing-push (behind_word s v) ws w

words_then-push : (cs : List Change) (s : CommentPlace) (ws : List Word) (w : Word)
    → words_then cs s (ws ++ w ∷ []) ≡ words_then cs s ws ++ word_then cs (standing_behind s ws) w ∷ []
words_then-push cs s [] w = refl
words_then-push cs s (v ∷ ws) w = ap (λ us. word_then cs s v ∷ us) (words_then-push cs (behind_word s v) ws w)

reading-push : (us : List Word) (w : Word) → reading (us ++ w ∷ []) ≡ reading us ++ with_space w
reading-push us w = sym (flat_map_more with_space [] us w)

module _ (cs : List Change) (ws : List Word) (w : Word) (s : CommentPlace) (stands : s ≡ standing_behind at_first ws) where
  pub reads_more : (text new : List ℕ) → text ≡ reading (words_then cs at_first ws) → new ≡ text ++ with_space (word_then cs s w)
      → new ≡ reading (words_then cs at_first (ws ++ w ∷ []))
  reads_more text new reads pushed =
      pushed
      ∙ ap (λ (x : List ℕ). x ++ with_space (word_then cs s w)) reads
      ∙ ap (λ (z : CommentPlace). reading (words_then cs at_first ws) ++ with_space (word_then cs z w)) stands
      ∙ sym (reading-push (words_then cs at_first ws) (word_then cs (standing_behind at_first ws) w))
      ∙ ap reading (sym (words_then-push cs at_first ws w))

  pub stands_behind : (next : CommentPlace) → next ≡ behind_word s w → next ≡ standing_behind at_first (ws ++ w ∷ [])
  stands_behind next leads = leads ∙ ap (λ (z : CommentPlace). behind_word z w) stands ∙ sym (standing-push at_first ws w)
