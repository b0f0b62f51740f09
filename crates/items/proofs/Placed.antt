-- Words with changed labels, in a comment and outside of them.
use Rattle.std.proofs.Common.{◌≡◌, ◌∙◌, Bool, true, false, cond, List, ◌∷◌, Option, Some, None, codes, sym, ap}
use Rattle.std.specs.Prelude.{drop, is_some}
use mathlib.Core.Bool.{not}
use Rattle.std.specs.Str.{bytes_eq}
use Rattle.mmtext.specs.Words.{Word}
use Rattle.giving.specs.Staying.{Change}
use Rattle.commentwords.specs.declared.comment_place.CommentPlace.{CommentPlace}
use Rattle.commentwords.specs.Words.{word_then, behind_word, at_first}
use Rattle.items.specs.declared.part.Part.{Part}
use Rattle.items.specs.declared.place.WordPlace.{WordPlace}
use Rattle.items.specs.Items.{outside}
use Rattle.items.specs.Renaming.{reworded, first_or}
use Rattle.items.specs.Machine.{part_then, place_then, TakesWord, TakesSaid}

module _ (cs : List Change) (part : Part) (s : CommentPlace) (w : Word) (ws : List Word) where
  in_comment : (closes : Bool) → bytes_eq w (codes "$)") ≡ closes
      → reworded cs (Some s) (part_then cs part (outside true (w ∷ ws))) (w ∷ ws)
      ≡ cond closes (w ∷ reworded cs None (part_then cs part (outside (not closes) ws)) ws)
      (word_then cs s w ∷ reworded cs (Some (behind_word s w)) (part_then cs part (outside (not closes) ws)) ws)
  in_comment closes e =
      ap (λ b. cond b (w ∷ reworded cs None (part_then cs part (outside (not b) ws)) ws)
      (word_then cs s w ∷ reworded cs (Some (behind_word s w)) (part_then cs part (outside (not b) ws)) ws)) e

  outside_comments : (opens : Bool) → bytes_eq w (codes "$(") ≡ opens
      → reworded cs None (part_then cs part (outside false (w ∷ ws))) (w ∷ ws)
      ≡ cond opens (w ∷ reworded cs (Some at_first) (part_then cs part (cond opens (outside true ws) (w ∷ outside false ws))) ws)
      (first_or w (part_then cs part (cond opens (outside true ws) (w ∷ outside false ws)))
      ∷ reworded cs None (drop 1 (part_then cs part (cond opens (outside true ws) (w ∷ outside false ws)))) ws)
  outside_comments opens e =
      ap (λ b. cond b (w ∷ reworded cs (Some at_first) (part_then cs part (cond b (outside true ws) (w ∷ outside false ws))) ws)
      (first_or w (part_then cs part (cond b (outside true ws) (w ∷ outside false ws)))
      ∷ reworded cs None (drop 1 (part_then cs part (cond b (outside true ws) (w ∷ outside false ws)))) ws)) e

module _ (cs : List Change) (old new : WordPlace) (w : Word) where
  from_place : (comment : Option CommentPlace) → old.comment ≡ comment → (ws : List Word)
      → place_then cs old ws ≡ reworded cs comment (part_then cs old.part (outside (is_some comment) ws)) ws
  from_place comment e ws = ap (λ o. reworded cs o (part_then cs old.part (outside (is_some o) ws)) ws) e

  to_place : (comment : Option CommentPlace) (part : Part) → new.comment ≡ comment → new.part ≡ part → (ws : List Word)
      → place_then cs new ws ≡ reworded cs comment (part_then cs part (outside (is_some comment) ws)) ws
  to_place comment part e f ws =
      ap (λ o. reworded cs o (part_then cs new.part (outside (is_some o) ws)) ws) e
      ∙ ap (λ p. reworded cs comment (part_then cs p (outside (is_some comment) ws)) ws) f

  -- $) closes a comment
  pub closes : (s : CommentPlace) → old.comment ≡ Some s → bytes_eq w (codes "$)") ≡ true → new.comment ≡ None → new.part ≡ old.part
      → TakesWord cs old w w new
  closes s is closing comment part ws =
      from_place (Some s) is (w ∷ ws) ∙ in_comment cs old.part s w ws true closing
      ∙ ap (λ vs. w ∷ vs) (sym (to_place None old.part comment part ws))

  -- another word of it
  pub goes_on : (s : CommentPlace) → old.comment ≡ Some s → bytes_eq w (codes "$)") ≡ false → new.comment ≡ Some (behind_word s w)
      → new.part ≡ old.part → TakesWord cs old w (word_then cs s w) new
  goes_on s is closing comment part ws =
      from_place (Some s) is (w ∷ ws) ∙ in_comment cs old.part s w ws false closing
      ∙ ap (λ vs. word_then cs s w ∷ vs) (sym (to_place (Some (behind_word s w)) old.part comment part ws))

  -- $( opens one
  pub opens : old.comment ≡ None → bytes_eq w (codes "$(") ≡ true → new.comment ≡ Some at_first → new.part ≡ old.part
      → TakesWord cs old w w new
  opens is opening comment part ws =
      from_place None is (w ∷ ws) ∙ outside_comments cs old.part at_first w ws true opening
      ∙ ap (λ vs. w ∷ vs) (sym (to_place (Some at_first) old.part comment part ws))

  -- a word outside of comments
  pub stands_outside : (v : Word) (part : Part) → old.comment ≡ None → bytes_eq w (codes "$(") ≡ false
      → TakesSaid cs old.part w v part → new.comment ≡ None → new.part ≡ part → TakesWord cs old w v new
  stands_outside v part is opening takes comment same ws =
      from_place None is (w ∷ ws) ∙ outside_comments cs old.part at_first w ws false opening
      ∙ ap (λ vs. first_or w vs ∷ reworded cs None (drop 1 vs) ws) (takes (outside false ws))
      ∙ ap (λ vs. v ∷ vs) (sym (to_place None part comment same ws))
