-- What is kept of assertions stays right as more is kept.
use Rattle.std.proofs.Common.{◌≡◌, ℕ, zero, suc, Bool, List, [], ◌∷◌, ◌++◌, map, Option, Some, None, refl, sym, ap, ◌∙◌, ◌⊎◌, inl, inr}
use Rattle.std.specs.Prelude.{slice_get, slice_set}
use Rattle.std.specs.Option.{option_map}
use Rattle.source.specs.Scopes.{Assertion}
use Rattle.taking.specs.Settings.{is_float}

-- what is kept at a place is right of the assertion there
abbrev pub AllHold : List Assertion → List (Option (List Bool)) → Type 0
AllHold xs kept =
    (place : ℕ) (flags : List Bool) → slice_get kept place ≡ Some (Some flags)
    → option_map (λ x. map is_float x.hypotheses) (slice_get xs place) ≡ Some flags

got_more : (kept : List (Option (List Bool))) (place : ℕ) (flags : List Bool) → slice_get (kept ++ None ∷ []) place ≡ Some (Some flags)
    → slice_get kept place ≡ Some (Some flags)
got_more [] zero flags h = absurd cc
got_more [] (suc place) flags h = absurd cc
got_more (k ∷ ks) zero flags h = h
got_more (k ∷ ks) (suc place) flags h = got_more ks place flags h

-- more room
pub hold_more : (xs : List Assertion) (kept new : List (Option (List Bool))) → new ≡ kept ++ None ∷ [] → AllHold xs kept → AllHold xs new
hold_more xs kept new e a = λ place flags h. a place flags (got_more kept place flags (ap (λ ks. slice_get ks place) (sym e) ∙ h))

got_set : {A : Type 0} (kept : List A) (at place : ℕ) (y z : A) → slice_get (slice_set kept at y) place ≡ Some z
    → (slice_get kept place ≡ Some z) ⊎ ((place ≡ at) × (y ≡ z))
got_set [] at place y z h = inl h
got_set (k ∷ ks) zero zero y z h = inr (refl, cc)
got_set (k ∷ ks) zero (suc place) y z h = inl h
got_set (k ∷ ks) (suc at) zero y z h = inl h
got_set (k ∷ ks) (suc at) (suc place) y z h = elim (got_set ks at place y z h) [ inl e ↦ inl e | inr p ↦ inr (ap (λ n. suc n) p.0, p.1) ]

-- what is right is kept
pub hold_set : (xs : List Assertion) (kept new : List (Option (List Bool))) (at : ℕ) (flags : List Bool)
    → new ≡ slice_set kept at (Some flags)
    → option_map (λ x. map is_float x.hypotheses) (slice_get xs at) ≡ Some flags → AllHold xs kept → AllHold xs new
hold_set xs kept new at flags e right a = λ place fs h.
    elim (got_set kept at place (Some flags) (Some fs) (ap (λ ks. slice_get ks place) (sym e) ∙ h)) [
      | inl g ↦ a place fs g
      | inr p ↦
          let same : flags ≡ fs = cc in
          ap (λ k. option_map (λ x. map is_float x.hypotheses) (slice_get xs k)) p.0 ∙ right ∙ ap Some same
    ]
