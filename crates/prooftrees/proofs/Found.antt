-- The first item of the front of a list that passes a test.
use Rattle.std.proofs.Common.{◌≡◌, ℕ, zero, suc, ◌<◌, ◌≤◌, Bool, true, false, cond, List, [], ◌∷◌, length, take, Option, Some, None}
use Rattle.std.proofs.Common.{refl, sym, ap, subst, ◌∙◌, inl, inr, arith}
use Rattle.std.specs.Prelude.{slice_get, find}
use Rattle.std.specs.Option.{option_map, is_some}
use Rattle.std.proofs.lemmas.Bool.{cases_Bool}
use Rattle.mmsyntax.specs.Tables.{place_of}
use Rattle.mmsyntax.proofs.FirstPlace.{place_within}

-- where one of the front passes, it stands at the place of the first of all
pub record FoundAt {A : Type 0} (test : A → Bool) (xs : List A) (n k : ℕ) : Type 0 where
  pub place_is : place_of test xs ≡ Some k
  pub item_is : find test (take n xs) ≡ slice_get xs k
  pub within : k < length xs

pub found_in_front : {A : Type 0} (test : A → Bool) (xs : List A) (n : ℕ) → is_some (find test (take n xs)) ≡ true
    → (k : ℕ) × FoundAt test xs n k
found_in_front test xs zero h = absurd cc
found_in_front test [] (suc n) h = absurd cc
found_in_front {A} test (x ∷ xs) (suc n) h =
    elim (cases_Bool (test x)) [
      | inl y ↦ (
        0,
        record {
          place_is = ap (λ b. cond b (Some 0) (option_map (λ k. suc k) (place_of test xs))) y;
          item_is = ap (λ b. cond b (Some x) (find test (take n xs))) y;
          within = omega arith;
        },
      )
      | inr fails ↦
          let first : find test (take (suc n) (x ∷ xs)) ≡ find test (take n xs) = ap (λ b. cond b (Some x) (find test (take n xs))) fails in
          let rest = found_in_front test xs n (sym (ap is_some first) ∙ h) in
          let at = rest.1 in (
            suc rest.0,
            record {
              place_is = ap (λ b. cond b (Some 0) (option_map (λ k. suc k) (place_of test xs))) fails
                  ∙ ap (λ o. option_map (λ k. suc k) o) at.place_is;
              item_is = first ∙ at.item_is;
              within = let h = at.within in omega arith;
            },
          )
    ]

-- ---- by the place of the first of all

-- the first of all that passes is the first of the front, if it stands there
pub record IsFirst {A : Type 0} (test : A → Bool) (xs : List A) (n k : ℕ) : Type 0 where
  pub there : k < n → find test (take n xs) ≡ slice_get xs k
  pub behind : n ≤ k → find test (take n xs) ≡ None
  pub within : k < length xs

first_step : {A : Type 0} (test : A → Bool) (x : A) (xs : List A) (n k : ℕ) (b : Bool) (o : Option ℕ) → test x ≡ b
    → place_of test xs ≡ o → cond b (Some 0) (option_map (λ j. suc j) o) ≡ Some k
    → ((j : ℕ) → place_of test xs ≡ Some j → IsFirst test xs n j) → IsFirst test (x ∷ xs) (suc n) k
first_step test x xs n k true o t p e rest =
    let same : 0 ≡ k = cc in
    subst (IsFirst test (x ∷ xs) (suc n)) same
    (record {
      there = λ h. ap (λ b. cond b (Some x) (find test (take n xs))) t;
      behind = λ h. absurd (omega arith);
      within = omega arith;
    })
first_step test x xs n k false None t p e rest = absurd cc
first_step test x xs n k false (Some j) t p e rest =
    let same : suc j ≡ k = cc in
    let at = rest j p in
    let skip : find test (take (suc n) (x ∷ xs)) ≡ find test (take n xs) = ap (λ b. cond b (Some x) (find test (take n xs))) t in
    subst (IsFirst test (x ∷ xs) (suc n)) same
    (record {
      there = λ h. skip ∙ at.there (omega arith);
      behind = λ h. skip ∙ at.behind (omega arith);
      within = let h = at.within in omega arith;
    })

pub first_is : {A : Type 0} (test : A → Bool) (xs : List A) (n k : ℕ) → place_of test xs ≡ Some k → IsFirst test xs n k
first_is test [] n k e = absurd cc
first_is test (x ∷ xs) zero k e = record {
  there = λ h. absurd (omega arith);
  behind = λ h. refl;
  within = place_within test (x ∷ xs) k e;
}
first_is test (x ∷ xs) (suc n) k e =
    first_step test x xs n k (test x) (place_of test xs) refl refl e (λ j p. first_is test xs n j p)
