-- The labels that are given to `$e`, one by one.
use Rattle.std.proofs.Common.{◌≡◌, ◌∙◌, Bool, true, false, cond, List, [], ◌∷◌, ◌++◌, take, drop, ap, append_assoc}
use Rattle.mmtext.specs.Words.{Word}
use Rattle.dressing.specs.Labels.{given_from}

-- what is given so far, and what is left of labels that were written and of those that are asked for, give all
module _ (free : Word → Bool) (all made left labels : List Word) (w : Word) where
  -- a label that is free
  pub with_free : made ++ given_from free left (w ∷ labels) ≡ all → true ≡ free w
      → (made ++ w ∷ []) ++ given_from free left labels ≡ all
  with_free so_far is =
      append_assoc made (w ∷ []) (given_from free left labels)
      ∙ ap (λ b. made ++ cond b (w ∷ given_from free left labels) (take 1 left ++ given_from free (drop 1 left) labels)) is
      ∙ so_far

  -- another, in whose place the next goes
  pub with_next : (next : Word) → made ++ given_from free (next ∷ left) (w ∷ labels) ≡ all → false ≡ free w
      → (made ++ next ∷ []) ++ given_from free left labels ≡ all
  with_next next so_far is =
      append_assoc made (next ∷ []) (given_from free left labels)
      ∙ ap (λ b. made ++ cond b (w ∷ given_from free (next ∷ left) labels) (next ∷ given_from free left labels)) is
      ∙ so_far

  -- another, where none is left
  pub with_none : made ++ given_from free [] (w ∷ labels) ≡ all → false ≡ free w → made ++ given_from free [] labels ≡ all
  with_none so_far is = ap (λ b. made ++ cond b (w ∷ given_from free [] labels) (given_from free [] labels)) is ∙ so_far
