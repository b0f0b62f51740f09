-- The lines of the assertions at the first places, with that of one place more.
use Rattle.std.proofs.Common.{◌≡◌, ◌<◌, ◌+◌, ℕ, List, [], ◌∷◌, ◌++◌, Option, None, Some, length, get_or, take, map, sym, ap, ◌∙◌}
use Rattle.std.proofs.lemmas.List.{map-append, append-nil, take_more}
use Rattle.std.proofs.lemmas.List.Elements.{filter_map-append}
use Rattle.library.specs.declared.command.Line.{Line}
use Rattle.library.specs.declared.library.Ranked.{Ranked}
use Rattle.catalog.specs.Entries.{Entries, living}

module _ (f : Ranked → Line) (xs : Entries) (k : ℕ) (o : Option Ranked) (k_in : k < length xs) (here : get_or xs k o ≡ o) where
  living_more : living (take (k + 1) xs) ≡ living (take k xs) ++ living (o ∷ [])
  living_more =
      ap living (take_more xs k o k_in ∙ ap (λ y. take k xs ++ y ∷ []) here)
      ∙ filter_map-append (λ (y : Option Ranked). y) (take k xs) (o ∷ [])

  -- an empty place has no line
  pub lines-empty : o ≡ None → map f (living (take k xs)) ≡ map f (living (take (k + 1) xs))
  lines-empty empty =
      ap (map f) (sym (living_more ∙ ap (λ y. living (take k xs) ++ living (y ∷ [])) empty ∙ append-nil (living (take k xs))))

  pub lines-more : (ls : List Line) (l : Line) (e : Ranked) → o ≡ Some e → ls ≡ map f (living (take k xs)) → l ≡ f e
      → ls ++ l ∷ [] ≡ map f (living (take (k + 1) xs))
  lines-more ls l e full before own =
      ap (λ (ks : List Line). ks ++ l ∷ []) before ∙ ap (λ (y : Line). map f (living (take k xs)) ++ y ∷ []) own
      ∙ sym (map-append f (living (take k xs)) (e ∷ []))
      ∙ ap (map f) (sym (living_more ∙ ap (λ y. living (take k xs) ++ living (y ∷ [])) full))
