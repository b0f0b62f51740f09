-- What is given under labels.
use Rattle.std.proofs.Common.{◌≡◌, ◌∙◌, ℕ, suc, Bool, true, false, cond, List, [], ◌∷◌, map, Option, Some, refl, ap}
use Rattle.std.specs.Prelude.{find, slice_get}
use Rattle.std.specs.Option.{option_and_then, option_map}
use Rattle.std.specs.Str.{bytes_eq}
use Rattle.mmtext.specs.Words.{Word}
use Rattle.mmsyntax.specs.Tables.{place_of}
use Rattle.mmsyntax.proofs.FirstPlace.{got_later}

-- as the code has what is given, and by which label
module _ {A B : Type 0} (view : A → B) (of : B → Word) where
  abbrev pub labels_in : List A → List Word
  labels_in gs = map (λ g. of (view g)) gs

  by_test : (b : Bool) (g : A) (gs : List A) (o : Option ℕ) (f : Option B)
      → option_map view (option_and_then (slice_get gs) o) ≡ f
      → option_map view (option_and_then (slice_get (g ∷ gs)) (cond b (Some 0) (option_map (λ n. suc n) o))) ≡ cond b (Some (view g)) f
  by_test true g gs o f e = refl
  by_test false g gs o f e = ap (option_map view) (got_later g gs o) ∙ e

  -- the first under a label stands at the first place of the label
  pub first_for : (gs : List A) (w : Word)
      → option_map view (option_and_then (slice_get gs) (place_of (bytes_eq w) (labels_in gs)))
      ≡ find (λ g. bytes_eq w (of g)) (map view gs)
  first_for [] w = refl
  first_for (g ∷ gs) w =
      by_test (bytes_eq w (of (view g))) g gs (place_of (bytes_eq w) (labels_in gs)) (find (λ g. bytes_eq w (of g)) (map view gs))
      (first_for gs w)
