-- Words in comments and outside of them, some behind others.
use Rattle.std.proofs.Common.{◌≡◌, ◌∙◌, Bool, true, false, cond, List, [], ◌∷◌, ◌++◌, codes, refl, ap, append-nil}
use Rattle.std.specs.Prelude.{◌||◌}
use Rattle.std.specs.List.{list_any}
use mathlib.Core.Bool.{not}
use Rattle.std.specs.Str.{bytes_eq}
use Rattle.mmtext.specs.Words.{Word}
use Rattle.items.specs.Items.{outside, is_open_behind}

pub open_both : (was : Bool) (xs ys : List Word) → is_open_behind was (xs ++ ys) ≡ is_open_behind (is_open_behind was xs) ys
open_both was [] ys = refl
open_both true (w ∷ ws) ys = open_both (not (bytes_eq w (codes "$)"))) ws ys
open_both false (w ∷ ws) ys = open_both (bytes_eq w (codes "$(")) ws ys

said_one : (opens : Bool) (w : Word) (xs ys mid : List Word) → outside opens (xs ++ ys) ≡ outside opens xs ++ mid
    → cond opens (outside true (xs ++ ys)) (w ∷ outside false (xs ++ ys)) ≡ cond opens (outside true xs) (w ∷ outside false xs) ++ mid
said_one true w xs ys mid e = e
said_one false w xs ys mid e = ap (λ vs. w ∷ vs) e

pub outside_both : (was : Bool) (xs ys : List Word) → outside was (xs ++ ys) ≡ outside was xs ++ outside (is_open_behind was xs) ys
outside_both was [] ys = refl
outside_both true (w ∷ ws) ys = outside_both (not (bytes_eq w (codes "$)"))) ws ys
outside_both false (w ∷ ws) ys =
    said_one (bytes_eq w (codes "$(")) w ws ys (outside (is_open_behind (bytes_eq w (codes "$(")) ws) ys)
    (outside_both (bytes_eq w (codes "$(")) ws ys)

-- the inside of a comment up to its $)
closed_at : (w : Word) (body : List Word) (closes later : Bool) → bytes_eq w (codes "$)") ≡ closes → (closes || later) ≡ false → later ≡ false × (closes ≡ false)
closed_at w body true later e none = absurd cc
closed_at w body false later e none = (none, refl)

pub comment_closes : (body : List Word) → list_any (λ w. bytes_eq w (codes "$)")) body ≡ false
    → is_open_behind true (body ++ codes "$)" ∷ []) ≡ false
comment_closes [] none = refl
comment_closes (w ∷ ws) none =
    let both = closed_at w ws (bytes_eq w (codes "$)")) (list_any (λ w. bytes_eq w (codes "$)")) ws) refl none in
    ap (λ b. is_open_behind (not b) (ws ++ codes "$)" ∷ [])) both.1 ∙ comment_closes ws both.0

pub comment_says_nothing : (body : List Word) → list_any (λ w. bytes_eq w (codes "$)")) body ≡ false
    → outside true (body ++ codes "$)" ∷ []) ≡ []
comment_says_nothing [] none = refl
comment_says_nothing (w ∷ ws) none =
    let both = closed_at w ws (bytes_eq w (codes "$)")) (list_any (λ w. bytes_eq w (codes "$)")) ws) refl none in
    ap (λ b. outside (not b) (ws ++ codes "$)" ∷ [])) both.1 ∙ comment_says_nothing ws both.0

-- a whole comment, $( to $), behind words outside of comments
module _ (so_far body : List Word) (closed : is_open_behind false so_far ≡ false)
    (none : list_any (λ w. bytes_eq w (codes "$)")) body ≡ false) where
  pub comment_leaves : is_open_behind false (so_far ++ codes "$(" ∷ (body ++ codes "$)" ∷ [])) ≡ false
  comment_leaves =
      open_both false so_far (codes "$(" ∷ (body ++ codes "$)" ∷ []))
      ∙ ap (λ b. is_open_behind b (codes "$(" ∷ (body ++ codes "$)" ∷ []))) closed ∙ comment_closes body none

  pub comment_adds_nothing : outside false (so_far ++ codes "$(" ∷ (body ++ codes "$)" ∷ [])) ≡ outside false so_far
  comment_adds_nothing =
      outside_both false so_far (codes "$(" ∷ (body ++ codes "$)" ∷ []))
      ∙ ap (λ b. outside false so_far ++ outside b (codes "$(" ∷ (body ++ codes "$)" ∷ []))) closed
      ∙ ap (λ vs. outside false so_far ++ vs) (comment_says_nothing body none) ∙ append-nil (outside false so_far)

-- one more word outside of comments
module _ (so_far : List Word) (w : Word) (closed : is_open_behind false so_far ≡ false) (opens : bytes_eq w (codes "$(") ≡ false) where
  pub word_leaves : is_open_behind false (so_far ++ w ∷ []) ≡ false
  word_leaves = open_both false so_far (w ∷ []) ∙ ap (λ b. is_open_behind b (w ∷ [])) closed ∙ opens

  pub word_is_said : outside false (so_far ++ w ∷ []) ≡ outside false so_far ++ w ∷ []
  word_is_said =
      outside_both false so_far (w ∷ []) ∙ ap (λ b. outside false so_far ++ outside b (w ∷ [])) closed
      ∙ ap (λ b. outside false so_far ++ cond b (outside true []) (w ∷ [])) opens
