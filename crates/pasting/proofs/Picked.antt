-- Of the words of a list those that pass a test, one more of them.
use Rattle.std.proofs.Common.{◌≡◌, ◌∙◌, ◌<◌, ◌+◌, ℕ, Bool, true, false, List, [], ◌∷◌, ◌++◌, length, take, get_or, Bor}
use Rattle.std.proofs.Common.{refl, sym, ap, ap₂}
use Rattle.std.specs.Prelude.{filter}
use Rattle.std.proofs.lemmas.List.{map-append, map_more, append-nil}
use Rattle.std.proofs.lemmas.List.Elements.{filter-append}
use Rattle.mmtext.specs.Words.{Word}
use Rattle.source.specs.Views.{seen_words}

one_kept : (p : Word → Bool) (w : Word) → true ≡ p w → filter p (w ∷ []) ≡ w ∷ []
one_kept p w passes = rw (sym passes) refl

one_left : (p : Word → Bool) (w : Word) → false ≡ p w → filter p (w ∷ []) ≡ []
one_left p w fails = rw (sym fails) refl

module _ (p : Word → Bool) (xs : List (Bor (List ℕ))) (i : ℕ) (d : Bor (List ℕ)) (within : i < length xs) where
  one_more : filter p (seen_words (take (i + 1) xs)) ≡ filter p (seen_words (take i xs)) ++ filter p ((get_or xs i d).now ∷ [])
  one_more =
      ap (filter p) (map_more (λ (w : Bor (List ℕ)). w.now) xs i d within)
      ∙ filter-append p (seen_words (take i xs)) ((get_or xs i d).now ∷ [])

  -- one that passes is put behind those so far
  pub picked_next : true ≡ p (get_or xs i d).now → (made more : List (Bor (List ℕ))) → seen_words made ≡ filter p (seen_words (take i xs))
      → more ≡ made ++ get_or xs i d ∷ [] → seen_words more ≡ filter p (seen_words (take (i + 1) xs))
  picked_next passes made more so_far is =
      ap seen_words is
      ∙ map-append (λ (w : Bor (List ℕ)). w.now) made (get_or xs i d ∷ [])
      ∙ ap₂ (λ ws vs. ws ++ vs) so_far (sym (one_kept p (get_or xs i d).now passes))
      ∙ sym one_more

  -- one that doesn't pass is left out
  pub left_out : false ≡ p (get_or xs i d).now → (made : List (Bor (List ℕ))) → seen_words made ≡ filter p (seen_words (take i xs))
      → seen_words made ≡ filter p (seen_words (take (i + 1) xs))
  left_out fails made so_far =
      so_far
      ∙ sym (append-nil (filter p (seen_words (take i xs))))
      ∙ ap (λ ws. filter p (seen_words (take i xs)) ++ ws) (sym (one_left p (get_or xs i d).now fails))
      ∙ sym one_more
