-- Assertions that stay, in their order.
use Rattle.std.proofs.Common.{◌≡◌, ◌∙◌, ℕ, zero, suc, ◌+◌, ◌<◌, ◌≤◌, List, [], ◌∷◌, length, take, map, get_or, Option, Some, None, refl, sym, ap, subst}
use Rattle.std.proofs.Common.{arith, add-one, inl, inr}
use Rattle.std.specs.Prelude.{slice_get}
use Rattle.std.proofs.lemmas.Option.{slice_get_cases, slice_get_within}
use Rattle.std.proofs.lemmas.List.{length-map, length-take-le, take_all}
use Rattle.source.specs.Scopes.{Assertion}
use Rattle.giving.specs.Staying.{Change, StayAll, IsFirstNotStaying}
use Rattle.giving.specs.Places.{StaysThere}

same_length : (cs : List Change) (xs ys : List Assertion) → StayAll cs xs ys → length xs ≡ length ys
same_length cs [] [] h = refl
same_length cs [] (y ∷ ys) h = absurd h
same_length cs (x ∷ xs) [] h = absurd h
same_length cs (x ∷ xs) (y ∷ ys) h = ap suc (same_length cs xs ys h.1)

no_second : (cs : List Change) (o : Option Assertion) → StaysThere cs o None → ⊥
no_second cs None s = s
no_second cs (Some x) s = s

-- one more of both
stay_more : (cs : List Change) (xs ys : List Assertion) (n : ℕ) → StayAll cs (take n xs) (take n ys)
    → StaysThere cs (slice_get xs n) (slice_get ys n) → StayAll cs (take (suc n) xs) (take (suc n) ys)
stay_more cs [] ys n h s = absurd s
stay_more cs (x ∷ xs) [] n h s = absurd (no_second cs (slice_get (x ∷ xs) n) s)
stay_more cs (x ∷ xs) (y ∷ ys) zero h s = (s, tt)
stay_more cs (x ∷ xs) (y ∷ ys) (suc n) h s = (h.0, stay_more cs xs ys n h.1 s)

-- the last of both
last_stays : (cs : List Change) (xs ys : List Assertion) (n : ℕ) → n < length xs → StayAll cs (take (suc n) xs) (take (suc n) ys)
    → StaysThere cs (slice_get xs n) (slice_get ys n)
last_stays cs [] ys n l h = absurd (omega arith)
last_stays cs (x ∷ xs) [] n l h = absurd h
last_stays cs (x ∷ xs) (y ∷ ys) zero l h = h.0
last_stays cs (x ∷ xs) (y ∷ ys) (suc n) l h = last_stays cs xs ys n (omega arith) h.1

-- all of both
all_stay : (cs : List Change) (xs ys : List Assertion) (n : ℕ) → length xs ≤ n → length ys ≤ n → StayAll cs (take n xs) (take n ys)
    → StayAll cs xs ys
all_stay cs xs ys n a b h = subst (λ v. StayAll cs v ys) (take_all n xs a) (subst (StayAll cs (take n xs)) (take_all n ys b) h)

-- what stands at places
at_place : (xs found : List Assertion) (ks : List ℕ) (n : ℕ) → map (slice_get xs) ks ≡ map (λ x. Some x) found → n < length ks
    → slice_get xs (get_or ks n 0) ≡ slice_get found n
at_place xs found [] n e l = absurd (omega arith)
at_place xs [] (k ∷ ks) n e l = absurd cc
at_place xs (a ∷ found) (k ∷ ks) zero e l = cc
at_place xs (a ∷ found) (k ∷ ks) (suc n) e l =
    let rest : map (slice_get xs) ks ≡ map (λ x. Some x) found = cc in at_place xs found ks n rest (omega arith)

as_many : (xs found : List Assertion) (ks : List ℕ) → map (slice_get xs) ks ≡ map (λ x. Some x) found → length found ≡ length ks
as_many xs found ks e =
    sym (length-map found (λ (x : Assertion). Some x)) ∙ (ap length (sym e) ∙ length-map ks (slice_get xs))

-- the place of one of them is within
pub place_within : (xs found : List Assertion) (ks : List ℕ) (n k : ℕ) → map (slice_get xs) ks ≡ map (λ x. Some x) found → n < length ks
    → k ≡ get_or ks n 0 → k < length xs
place_within xs found ks n k e l at =
    let many = as_many xs found ks e in
    elim (slice_get_cases found n).1 [
      | inl x ↦ slice_get_within xs k x.0 (ap (slice_get xs) at ∙ (at_place xs found ks n e l ∙ x.2))
      | inr m ↦ absurd (let past : length found ≤ n = m.0 in omega (arith, many))
    ]

-- ---- assertions that stand at places of two sources
module _ (cs : List Change) (xs ys olds news : List Assertion) (ks js : List ℕ) (p : map (slice_get xs) ks ≡ map (λ x. Some x) olds)
    (q : map (slice_get ys) js ≡ map (λ x. Some x) news) (n : ℕ) (so_far : StayAll cs (take n olds) (take n news)) where
  pub goes_on : n < length ks → n < length js → StaysThere cs (slice_get xs (get_or ks n 0)) (slice_get ys (get_or js n 0))
      → StayAll cs (take (n + 1) olds) (take (n + 1) news)
  goes_on l m s =
      rw add-one
      (stay_more cs olds news n so_far
      (subst (StaysThere cs (slice_get olds n)) (at_place ys news js n q m)
      (subst (λ o. StaysThere cs o (slice_get ys (get_or js n 0))) (at_place xs olds ks n p l) s)))

  pub breaks : n < length ks → n < length js → (StaysThere cs (slice_get xs (get_or ks n 0)) (slice_get ys (get_or js n 0)) → ⊥)
      → IsFirstNotStaying cs olds news (Some n)
  breaks l m fails = (
    so_far,
    λ h. fails
        (subst (λ o. StaysThere cs o (slice_get ys (get_or js n 0))) (sym (at_place xs olds ks n p l))
        (subst (StaysThere cs (slice_get olds n)) (sym (at_place ys news js n q m))
        (last_stays cs olds news n (let many = as_many xs olds ks p in omega (arith, many)) h))),
  )

  pub ends_before : n < length ks → length js ≤ n → IsFirstNotStaying cs olds news (Some n)
  ends_before l m = (
    so_far,
    λ h.
        let a = as_many xs olds ks p in
        let b = as_many ys news js q in
        let same = same_length cs (take (suc n) olds) (take (suc n) news) h in
        let one = length-take-le (suc n) olds (omega (arith, a)) in
        let other = ap length (take_all (suc n) news (omega (arith, b))) in
        omega (arith, same, one, other, b),
  )

  pub others_left : length ks ≡ n → n < length js → IsFirstNotStaying cs olds news (Some n)
  others_left l m = (
    so_far,
    λ h.
        let a = as_many xs olds ks p in
        let b = as_many ys news js q in
        let same = same_length cs (take (suc n) olds) (take (suc n) news) h in
        let one = ap length (take_all (suc n) olds (omega (arith, a, l))) in
        let other = length-take-le (suc n) news (omega (arith, b)) in
        omega (arith, same, one, other, a, l),
  )

  pub all_seen : length ks ≤ n → length js ≤ length ks → IsFirstNotStaying cs olds news None
  all_seen l m =
      let a = as_many xs olds ks p in
      let b = as_many ys news js q in
      all_stay cs olds news n (omega (arith, a)) (omega (arith, b)) so_far
