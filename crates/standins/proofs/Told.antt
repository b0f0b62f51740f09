-- What is told of a library that was taken, without some labels.
use Rattle.std.proofs.Common.{◌≡◌, ◌∙◌, ◌+◌, ◌<◌, ℕ, Bool, true, false, cond, List, [], ◌∷◌, ◌++◌, length, take, get_or, filter, refl, sym, ap, Bor, append-nil}
use mathlib.Core.Bool.{not}
use Rattle.std.proofs.lemmas.Bool.{cond-true, cond-false}
use Rattle.std.proofs.lemmas.List.{map-append, map_more}
use Rattle.std.proofs.lemmas.List.Elements.{filter-append}
use Rattle.mmtext.specs.Words.{Word}
use Rattle.source.specs.Scopes.{is_in}
use Rattle.taking.specs.declared.reason.Reason.{Reason}
use Rattle.taking.specs.Reasons.{told_in}

-- without none it is as it was
pub all_told : (xs : List (Word × Reason)) → filter (λ a. not (is_in [] a.0)) xs ≡ xs
all_told [] = refl
all_told (x ∷ xs) = ap (λ ys. x ∷ ys) (all_told xs)

-- ---- one after another

module _ (p : Word × Reason → Bool) (xs : List (Bor (List ℕ) × Reason)) (i : ℕ) (d : Bor (List ℕ) × Reason) (within : i < length xs) where
  abbrev view : Bor (List ℕ) × Reason → Word × Reason
  view x = (x.0.now, x.1)

  abbrev this : Word × Reason
  this = view (get_or xs i d)

  one_more : filter p (told_in (take (i + 1) xs)) ≡ filter p (told_in (take i xs)) ++ cond (p this) (this ∷ []) []
  one_more = ap (filter p) (map_more view xs i d within) ∙ filter-append p (told_in (take i xs)) (this ∷ [])

  -- one that is told still
  pub told_next : p (view (get_or xs i d)) ≡ true → (made next : List (Bor (List ℕ) × Reason))
      → told_in made ≡ filter p (told_in (take i xs)) → next ≡ made ++ get_or xs i d ∷ []
      → told_in next ≡ filter p (told_in (take (i + 1) xs))
  told_next passes made next so_far is =
      ap told_in is
      ∙ map-append view made (get_or xs i d ∷ [])
      ∙ ap (λ ys. ys ++ this ∷ []) so_far
      ∙ ap (λ ys. filter p (told_in (take i xs)) ++ ys) (sym (cond-true (p this) (this ∷ []) [] passes))
      ∙ sym one_more

  -- one that isn't
  pub untold_next : p (view (get_or xs i d)) ≡ false → (made : List (Bor (List ℕ) × Reason))
      → told_in made ≡ filter p (told_in (take i xs)) → told_in made ≡ filter p (told_in (take (i + 1) xs))
  untold_next fails made so_far =
      so_far
      ∙ sym (append-nil (filter p (told_in (take i xs))))
      ∙ ap (λ ys. filter p (told_in (take i xs)) ++ ys) (sym (cond-false (p this) (this ∷ []) [] fails))
      ∙ sym one_more
