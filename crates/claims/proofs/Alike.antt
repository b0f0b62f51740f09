-- Lists that are alike: one has the other's elements in an order of its own, and so has the list that a function makes of each.
use Rattle.std.proofs.Common.{◌≡◌, ◌≢◌, ℕ, zero, suc, List, [], ◌∷◌, ◌++◌, IsPermutation, flat_map, slice_set, sym, refl, ap, subst}
use Rattle.std.proofs.lemmas.List.{append_assoc}
use Rattle.std.proofs.lemmas.List.Sorted.{IsPermutation-refl, IsPermutation-sym, IsPermutation-trans, IsPermutation-cons, IsPermutation-middle, IsPermutation-append_left, IsPermutation-append_right, IsPermutation-append_comm}
use mathlib.Core.Option.{some, some-injective, some-ne-none}
use lib.ListN.{get_elem?}

pub record Alike {V A : Type 0} (f : V → List A) (xs ys : List V) : Type 0 where
  pub order : IsPermutation xs ys
  pub flat : IsPermutation (flat_map f xs) (flat_map f ys)

module _ {V A : Type 0} (f : V → List A) where
  pub same : (xs : List V) → Alike f xs xs
  same xs = record { order = IsPermutation-refl xs; flat = IsPermutation-refl (flat_map f xs) }

  pub same_at : (x y : V) (xs : List V) → x ≡ y → Alike f (x ∷ xs) (y ∷ xs)
  same_at x y xs e = subst (λ (z : V). Alike f (x ∷ xs) (z ∷ xs)) e (same (x ∷ xs))

  pub through : (xs ys zs : List V) → Alike f xs ys → Alike f ys zs → Alike f xs zs
  through xs ys zs a b = record { order = IsPermutation-trans xs ys zs a.order b.order; flat = IsPermutation-trans _ _ _ a.flat b.flat }

  pub back : (xs ys : List V) → Alike f xs ys → Alike f ys xs
  back xs ys a = record { order = IsPermutation-sym xs ys a.order; flat = IsPermutation-sym _ _ a.flat }

  pub behind : (x : V) (xs ys : List V) → Alike f xs ys → Alike f (x ∷ xs) (x ∷ ys)
  behind x xs ys a = record { order = IsPermutation-cons x xs ys a.order; flat = IsPermutation-append_right (f x) _ _ a.flat }

  pub flipped : (x y : V) (xs : List V) → Alike f (x ∷ y ∷ xs) (y ∷ x ∷ xs)
  flipped x y xs = record { order = IsPermutation-middle (x ∷ []) y xs; flat = turned (f x) (f y) (flat_map f xs) }
    where
      turned : (ls ms ns : List A) → IsPermutation (ls ++ (ms ++ ns)) (ms ++ (ls ++ ns))
      turned ls ms ns =
          subst (λ (l : List A). IsPermutation l (ms ++ (ls ++ ns))) (append_assoc ls ms ns)
          (subst (λ (l : List A). IsPermutation ((ls ++ ms) ++ ns) l) (append_assoc ms ls ns)
          (IsPermutation-append_left ns (ls ++ ms) (ms ++ ls) (IsPermutation-append_comm ls ms)))

  -- the second of three comes to the front, and the third behind it
  pub second : (x y z : V) (xs ys : List V) → Alike f xs (y ∷ z ∷ ys) → Alike f (x ∷ xs) (y ∷ z ∷ x ∷ ys)
  second x y z xs ys a =
      through (x ∷ xs) (x ∷ y ∷ z ∷ ys) (y ∷ z ∷ x ∷ ys) (behind x xs (y ∷ z ∷ ys) a)
      (through (x ∷ y ∷ z ∷ ys) (y ∷ x ∷ z ∷ ys) (y ∷ z ∷ x ∷ ys) (flipped x y (z ∷ ys))
      (behind y (x ∷ z ∷ ys) (z ∷ x ∷ ys) (flipped x z ys)))

  -- an element at an index comes to the front, and so does what is set in its place
  pub at_front : (xs : List V) (i : ℕ) (x : V) → get_elem? xs i ≡ some x
      → (rest : List V) × Alike f xs (x ∷ rest) × ((w : V) → Alike f (slice_set xs i w) (w ∷ rest))
  at_front [] i x e = absurd (some-ne-none x (sym e))
  at_front (y ∷ ys) zero x e = (ys, same_at y x ys (some-injective y x e), λ w. same (w ∷ ys))
  at_front (y ∷ ys) (suc i) x e =
      let r = at_front ys i x e in (
        y ∷ r.0,
        through (y ∷ ys) (y ∷ x ∷ r.0) (x ∷ y ∷ r.0) (behind y ys (x ∷ r.0) r.1) (flipped y x r.0),
        λ w. through (y ∷ slice_set ys i w) (y ∷ w ∷ r.0) (w ∷ y ∷ r.0) (behind y (slice_set ys i w) (w ∷ r.0) (r.2 w)) (flipped y w r.0),
      )

  -- so do two elements, and what is set in their places
  pub at_two : (xs : List V) (i j : ℕ) (x y w : V) → get_elem? xs i ≡ some x → j ≢ i → get_elem? (slice_set xs i w) j ≡ some y
      → (rest : List V) × Alike f xs (x ∷ y ∷ rest) × ((z : V) → Alike f (slice_set (slice_set xs i w) j z) (w ∷ z ∷ rest))
  at_two [] i j x y w e n d = absurd (some-ne-none x (sym e))
  at_two (u ∷ us) zero zero x y w e n d = absurd (n refl)
  at_two (u ∷ us) zero (suc j) x y w e n d =
      let r = at_front us j y d in (
        r.0,
        through (u ∷ us) (u ∷ y ∷ r.0) (x ∷ y ∷ r.0) (behind u us (y ∷ r.0) r.1) (same_at u x (y ∷ r.0) (some-injective u x e)),
        λ z. behind w (slice_set us j z) (z ∷ r.0) (r.2 z),
      )
  at_two (u ∷ us) (suc i) zero x y w e n d =
      let r = at_front us i x e in (
        r.0,
        through (u ∷ us) (u ∷ x ∷ r.0) (x ∷ y ∷ r.0) (behind u us (x ∷ r.0) r.1)
            (through (u ∷ x ∷ r.0) (x ∷ u ∷ r.0) (x ∷ y ∷ r.0) (flipped u x r.0)
            (behind x (u ∷ r.0) (y ∷ r.0) (same_at u y r.0 (some-injective u y d)))),
        λ z. through (z ∷ slice_set us i w) (z ∷ w ∷ r.0) (w ∷ z ∷ r.0) (behind z (slice_set us i w) (w ∷ r.0) (r.2 w)) (flipped z w r.0),
      )
  at_two (u ∷ us) (suc i) (suc j) x y w e n d =
      let r = at_two us i j x y w e (λ p. n (ap suc p)) d in (
        u ∷ r.0,
        second u x y us r.0 r.1,
        λ z. second u w z (slice_set (slice_set us i w) j z) r.0 (r.2 z),
      )

  -- an element that is pushed comes to the front
  pub pushed : (xs ys : List V) (x y : V) → Alike f xs (x ∷ ys) → Alike f (xs ++ y ∷ []) (y ∷ x ∷ ys)
  pushed xs ys x y a = through (xs ++ y ∷ []) (y ∷ xs) (y ∷ x ∷ ys) (last_first xs) (behind y xs (x ∷ ys) a)
    where
      last_first : (us : List V) → Alike f (us ++ y ∷ []) (y ∷ us)
      last_first [] = same (y ∷ [])
      last_first (u ∷ us) =
          through (u ∷ (us ++ y ∷ [])) (u ∷ y ∷ us) (y ∷ u ∷ us) (behind u (us ++ y ∷ []) (y ∷ us) (last_first us)) (flipped u y us)
