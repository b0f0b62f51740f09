-- Lists of different labels: what keeps them different, a permutation and a replacement.
use Rattle.std.proofs.Common.{◌≡◌, ◌≢◌, ℕ, zero, suc, ◌<◌, ◌≤◌, true, false, List, [], ◌∷◌, length, get_or, map, sym, subst, ◌∙◌, inl}
use Rattle.std.proofs.Common.{inr, arith}
use Rattle.std.specs.List.{list_any, count_by}
use Rattle.std.specs.List.Sorted.{IsPermutation}
use Rattle.std.specs.Str.{bytes_eq}
use Rattle.std.proofs.lemmas.Bool.{cases_Bool, cond-true, cond-false, both_ways}
use Rattle.std.proofs.lemmas.List.Folds.{list_any_none}
use Rattle.std.proofs.lemmas.List.Sums.{sum_by-cons}
use Rattle.std.proofs.lemmas.List.Sorted.{sum_by-IsPermutation}
use Rattle.mmsyntax.specs.Assertions.{Distinct}
use Rattle.mmsyntax.proofs.Names.{same_bytes, bytes_eq-same, bytes_eq-sym}
use Rattle.mmsyntax.proofs.Distinct.{or_false, any_at, any-map}
use Rattle.derivation.specs.Laws.{replacing}
use Rattle.library.proofs.Counts.{one_if, none_counted, none_from_count}

-- ---- places

-- a label stands at one place only
pub one_place : (ks : List (List ℕ)) → Distinct bytes_eq ks → (i j : ℕ) (d : List ℕ) → i < j → j < length ks → get_or ks i d ≢ get_or ks j d
one_place [] h i j d lt within e = omega arith
one_place (k ∷ ks) h i zero d lt within e = omega arith
one_place (k ∷ ks) h zero (suc j) d lt within e =
    let l = get_or ks j d in
    both_ways (bytes_eq k l) (any_at (bytes_eq k) ks j d h.0 (omega arith)) (subst (λ x. bytes_eq k x ≡ true) e (bytes_eq-same k))
one_place (k ∷ ks) h (suc i) (suc j) d lt within e = one_place ks h.1 i j d (omega arith) (omega arith) e

-- ---- other orders

-- labels differ where each is counted at most once
distinct_counts : (ks : List (List ℕ)) → Distinct bytes_eq ks → (w : List ℕ) → count_by (bytes_eq w) ks ≤ 1
distinct_counts [] h w = omega arith
distinct_counts (k ∷ ks) h w =
    let e = sum_by-cons (one_if (bytes_eq w)) k ks in
    elim (cases_Bool (bytes_eq w k)) [
      | inl y ↦
          let none : list_any (bytes_eq w) ks ≡ false = subst (λ l. list_any (bytes_eq l) ks ≡ false) (sym (same_bytes w k y)) h.0 in
          omega (arith, cond-true {A = ℕ} (bytes_eq w k) 1 0 y, none_counted (bytes_eq w) ks none)
      | inr n ↦ omega (arith, cond-false {A = ℕ} (bytes_eq w k) 1 0 n, distinct_counts ks h.1 w)
    ]

distinct_from_counts : (ks : List (List ℕ)) → ((w : List ℕ) → count_by (bytes_eq w) ks ≤ 1) → Distinct bytes_eq ks
distinct_from_counts [] h = tt
distinct_from_counts (k ∷ ks) h =
    let itself = cond-true {A = ℕ} (bytes_eq k k) 1 0 (bytes_eq-same k) in (
      none_from_count (bytes_eq k) ks (omega (arith, sum_by-cons (one_if (bytes_eq k)) k ks, h k)),
      distinct_from_counts ks (λ w. omega (arith, sum_by-cons (one_if (bytes_eq w)) k ks, h w)),
    )

-- different labels are different in another order
pub distinct_permutation : (ks ls : List (List ℕ)) → IsPermutation ks ls → Distinct bytes_eq ks → Distinct bytes_eq ls
distinct_permutation ks ls p h =
    distinct_from_counts ls (λ w. subst (λ n. n ≤ 1) (sym (sum_by-IsPermutation (one_if (bytes_eq w)) ks ls p)) (distinct_counts ks h w))

-- ---- one label replaced

pub replacing-old : (old new l : List ℕ) → bytes_eq old l ≡ true → replacing old new l ≡ new
replacing-old old new l h = cond-true (bytes_eq old l) new l h

pub replacing-other : (old new l : List ℕ) → bytes_eq old l ≡ false → replacing old new l ≡ l
replacing-other old new l h = cond-false (bytes_eq old l) new l h

-- two different labels, neither of them the new one, stay different
replaced_apart : (old new k l : List ℕ) → bytes_eq k l ≡ false → bytes_eq new k ≡ false → bytes_eq new l ≡ false
    → bytes_eq (replacing old new k) (replacing old new l) ≡ false
replaced_apart old new k l h p q =
    elim (cases_Bool (bytes_eq old k)) [
      | inl a ↦ elim (cases_Bool (bytes_eq old l)) [
        | inl b ↦ absurd (both_ways (bytes_eq k l) h (subst (λ x. bytes_eq x l ≡ true) (same_bytes old k a) b))
        | inr b ↦ rw (replacing-old old new k a, replacing-other old new l b) q
      ]
      | inr a ↦ elim (cases_Bool (bytes_eq old l)) [
        | inl b ↦ rw (replacing-other old new k a, replacing-old old new l b) (bytes_eq-sym k new ∙ p)
        | inr b ↦ rw (replacing-other old new k a, replacing-other old new l b) h
      ]
    ]

-- different labels stay different where a label that is none of them replaces one
pub distinct_replaced : (old new : List ℕ) (ks : List (List ℕ)) → Distinct bytes_eq ks → list_any (bytes_eq new) ks ≡ false
    → Distinct bytes_eq (map (replacing old new) ks)
distinct_replaced old new [] h free = tt
distinct_replaced old new (k ∷ ks) h free =
    let both = or_false (bytes_eq new k) (list_any (bytes_eq new) ks) free in (
      any-map (bytes_eq (replacing old new k)) (replacing old new) ks
          ∙ list_any_none (λ l. bytes_eq (replacing old new k) (replacing old new l)) ks
          (λ i d lt.
          replaced_apart old new k (get_or ks i d) (any_at (bytes_eq k) ks i d h.0 lt) both.0 (any_at (bytes_eq new) ks i d both.1 lt)),
      distinct_replaced old new ks h.1 both.1,
    )
