-- The first place of an item, from the place that is noted for it.
use Rattle.std.proofs.Common.{◌≡◌, inl, inr, ℕ, suc, Bool, true, cond, List, [], ◌∷◌, Option, Some, refl, sym, ap, ◌∙◌}
use Rattle.std.specs.Prelude.{◌||◌}
use Rattle.std.specs.List.{list_any, slice_get}
use Rattle.std.specs.Option.{option_map}
use Rattle.std.proofs.lemmas.Bool.{cases_Bool}
use Rattle.mmsyntax.specs.Tables.{place_of}
use Rattle.scopes.specs.Found.{Found}

-- the first item that passes
place_first : {A : Type 0} (test : A → Bool) (xs : List A) → list_any test xs ≡ true
    → (i : ℕ) × (x : A) × (slice_get xs i ≡ Some x) × (test x ≡ true) × (place_of test xs ≡ Some i)
place_first test [] h = absurd cc
place_first {A} test (z ∷ zs) h =
    elim (cases_Bool (test z)) [
      | inl y ↦ (0, z, refl, y, ap (λ b. cond b (Some 0) (option_map (λ i. suc i) (place_of test zs))) y)
      | inr n ↦
          let later : list_any test zs ≡ true = sym (ap (λ b. b || list_any test zs) n) ∙ h in
          let r = place_first test zs later in (
            suc r.0,
            r.1,
            r.2,
            r.3,
            ap (λ b. cond b (Some 0) (option_map (λ i. suc i) (place_of test zs))) n
                ∙ ap (option_map (λ i. suc i)) r.4,
          )
    ]

-- the noted place is the first one, if an item passes
pub place_noted : {A : Type 0} (test : A → Bool) (xs : List A) (o : Option ℕ) → Found test xs o → list_any test xs ≡ true
    → o ≡ place_of test xs
place_noted test xs o found some =
    let r = place_first test xs some in
    found r.0 r.1 r.2 r.3 ∙ sym r.4
