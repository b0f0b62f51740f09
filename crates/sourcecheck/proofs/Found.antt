-- What is found by all who look is the first place that fails.
use Rattle.std.proofs.Common.{◌≡◌, ℕ, ◌<◌, List, [], ◌∷◌, ◌++◌, Option, None, Some, true, false, cond}
use Rattle.std.proofs.Common.{arith, ◌⊎◌, inl, inr, ⊎_elim, ltb, refl, sym, ap, subst}
use Rattle.std.specs.Option.{is_some}
use Rattle.std.proofs.lemmas.Bool.{ltb-true, ltb-false}
use Rattle.ranges.specs.Ranges.{Has}
use Rattle.ranges.proofs.Members.{all_has, has_append_left, has_append_right, has_append_cases}
use Rattle.claims.specs.Claims.{Counting, Claimant, Claims, IsClaimantOf}
use Rattle.sourcecheck.specs.Found.{FoundAmong, earlier, earliest}

-- of one more
pub earliest_last : {F : Type 0} (found : Option (ℕ × F)) (others : List (Option (ℕ × F))) (last : Option (ℕ × F))
    → earliest found (others ++ last ∷ []) ≡ earlier (earliest found others) last
earliest_last found [] last = refl
earliest_last found (other ∷ others) last = earliest_last (earlier found other) others last

module _ {F : Type 0} (Passes : ℕ → Type 0) (Fails : ℕ → F → Type 0) where
  abbrev Among : (ℕ → Type 0) → Option (ℕ × F) → Type 0
  Among P found = FoundAmong Passes Fails P found

  -- of the same places
  pub among_same : (P Q : ℕ → Type 0) (found : Option (ℕ × F)) → ((k : ℕ) → P k → Q k) → ((k : ℕ) → Q k → P k) → Among P found
      → Among Q found
  among_same P Q None to from f = λ k here. f k (from k here)
  among_same P Q (Some a) to from f = (to a.0 f.0, f.1, λ j lt here. f.2 j lt (from j here))

  -- of the places of both
  module _ (P Q R : ℕ → Type 0) (left : (k : ℕ) → P k → R k) (right : (k : ℕ) → Q k → R k) (split : (k : ℕ) → R k → P k ⊎ Q k) where
    passes_both : (k : ℕ) → R k → (P k → Passes k) → (Q k → Passes k) → Passes k
    passes_both k here one other = ⊎_elim one other (split k here)

    among_both : (found other : Option (ℕ × F)) → Among P found → Among Q other → Among R (earlier found other)
    among_both None None f o = λ k here. passes_both k here (f k) (o k)
    among_both None (Some b) f o = (right b.0 o.0, o.1, λ j lt here. passes_both j here (f j) (o.2 j lt))
    among_both (Some a) None f o = (left a.0 f.0, f.1, λ j lt here. passes_both j here (f.2 j lt) (o j))
    among_both (Some a) (Some b) f o =
        elim (ltb b.0 a.0) as (λ t. ltb b.0 a.0 ≡ t → Among R (cond t (Some b) (Some a))) [
          | true ↦ λ e. let less = ltb-true b.0 a.0 e in
              (right b.0 o.0, o.1, λ j lt here. passes_both j here (f.2 j (omega (arith, less, lt))) (o.2 j lt))
          | false ↦ λ e. let less = ltb-false b.0 a.0 e in
              (left a.0 f.0, f.1, λ j lt here. passes_both j here (f.2 j lt) (o.2 j (omega (arith, less, lt))))
        ] refl

  -- of the places of two lists
  pub among_lists : (xs ys : List ℕ) (found other : Option (ℕ × F)) → Among (λ k. Has k xs) found → Among (λ k. Has k ys) other
      → Among (λ k. Has k (xs ++ ys)) (earlier found other)
  among_lists xs ys =
      among_both (λ k. Has k xs) (λ k. Has k ys) (λ k. Has k (xs ++ ys)) (λ k has. has_append_left xs ys k has)
      (λ k has. has_append_right xs ys k has) (λ k has. has_append_cases xs ys k has)

  -- one more place is claimed, behind those before it, and is looked at where nothing was found before
  module _ (home : Counting) (n : ℕ) (old new : Claimant) (claims : Claims home n old new) where
    abbrev Before : ℕ → Type 0
    Before k = Has k old.claimed

    abbrev After : ℕ → Type 0
    After k = Has k new.claimed

    is_last : new.claimed ≡ old.claimed ++ n ∷ []
    is_last = ap (λ (c : Claimant). c.claimed) claims.is

    was_before : (k : ℕ) → Before k → After k
    was_before k has = subst (λ (l : List ℕ). Has k l) (sym is_last) (has_append_left old.claimed (n ∷ []) k has)

    is_after : (k : ℕ) → k ≡ n → After k
    is_after k is = subst (λ (l : List ℕ). Has k l) (sym is_last) (has_append_right old.claimed (n ∷ []) k (inl is))

    before_or_last : (k : ℕ) → After k → Before k ⊎ (k ≡ n)
    before_or_last k has =
        ⊎_elim (λ h. inl h) (λ h. ⊎_elim (λ e. inr e) (λ none. absurd none) h)
        (has_append_cases old.claimed (n ∷ []) k (subst (λ (l : List ℕ). Has k l) is_last has))

    pub claimed_passed : (found other : Option (ℕ × F)) → is_some found ≡ false → Among Before found → Among (λ k. k ≡ n) other
        → Among After other
    claimed_passed None None e f o = among_both Before (λ k. k ≡ n) After was_before is_after before_or_last None None f o
    claimed_passed None (Some b) e f o = among_both Before (λ k. k ≡ n) After was_before is_after before_or_last None (Some b) f o
    claimed_passed (Some a) other e f o = let none : ⊥ = cc in absurd none

    pub claimed_behind : (found : Option (ℕ × F)) → is_some found ≡ true → Among Before found → Among After found
    claimed_behind None e f = let none : ⊥ = cc in absurd none
    claimed_behind (Some found) e f =
        let below : found.0 < n = all_has (λ m. m < n) old.claimed found.0 claims.later f.0 in (
          was_before found.0 f.0,
          f.1,
          λ j lt here.
              ⊎_elim (λ h. f.2 j lt h) (λ (e : j ≡ n). absurd (omega (arith, below, lt, e))) (before_or_last j here),
        )

    pub claimed_own : IsClaimantOf home old → IsClaimantOf home new
    claimed_own own = subst (IsClaimantOf home) (sym claims.is) own
