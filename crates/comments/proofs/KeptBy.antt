-- What flags keep of lists, one behind the other.
use Rattle.std.proofs.Common.{◌≡◌, ◌∙◌, Bool, true, false, List, [], ◌∷◌, ◌++◌, length, map, refl, ap, arith}
use Rattle.std.specs.Prelude.{All}
use mathlib.Core.Bool.{not}
use Rattle.std.proofs.lemmas.List.Elements.{All-head}
use Rattle.source.specs.Flags.{kept, kept_at}

module _ {A : Type 0} where
  kept_at-append : (b : Bool) (x : A) (xs ys : List A) → kept_at b x (xs ++ ys) ≡ kept_at b x xs ++ ys
  kept_at-append true x xs ys = refl
  kept_at-append false x xs ys = refl

  pub kept-append : (fs gs : List Bool) (xs ys : List A) → length fs ≡ length xs → kept (fs ++ gs) (xs ++ ys) ≡ kept fs xs ++ kept gs ys
  kept-append [] gs [] ys e = refl
  kept-append [] gs (x ∷ xs) ys e = absurd (omega arith)
  kept-append (f ∷ fs) gs [] ys e = absurd (omega arith)
  kept-append (f ∷ fs) gs (x ∷ xs) ys e =
      ap (kept_at f x) (kept-append fs gs xs ys (omega arith)) ∙ kept_at-append f x (kept fs xs) (kept gs ys)

  -- where nothing that flags don't keep can be, they keep all
  pub kept_all : (P : A → Type 0) (never : (x : A) → P x → ⊥) (fs : List Bool) (xs : List A) → length fs ≡ length xs
      → All P (kept (map not fs) xs) → kept fs xs ≡ xs
  kept_all P never [] [] e h = refl
  kept_all P never [] (x ∷ xs) e h = absurd (omega arith)
  kept_all P never (f ∷ fs) [] e h = absurd (omega arith)
  kept_all P never (true ∷ fs) (x ∷ xs) e h = ap (λ ys. x ∷ ys) (kept_all P never fs xs (omega arith) h)
  kept_all P never (false ∷ fs) (x ∷ xs) e h = absurd (never x (All-head P x (kept (map not fs) xs) h))
