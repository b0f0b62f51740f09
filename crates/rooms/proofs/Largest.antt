-- The largest number of some things, from the front.
use Rattle.std.proofs.Common.{◌≡◌, ℕ, zero, suc, ◌+◌, ◌<◌, max, List, [], ◌∷◌, length, get_or, take, sym, ap, ◌∙◌, arith}
use Rattle.rooms.specs.Rooms.{largest_by}

module _ {A : Type 0} (f : A → ℕ) where
  largest_next : (xs : List A) (i : ℕ) (d : A) → i < length xs
      → largest_by f (take (suc i) xs) ≡ max (largest_by f (take i xs)) (f (get_or xs i d))
  largest_next [] i d lt = absurd (omega arith)
  largest_next (x ∷ xs) zero d lt = omega arith
  largest_next (x ∷ xs) (suc i) d lt = let next = largest_next xs i d (omega arith) in omega (arith, next)

  -- one more
  pub largest_more : (xs : List A) (i : ℕ) (x : A) → i < length xs → x ≡ get_or xs i x
      → largest_by f (take (i + 1) xs) ≡ max (largest_by f (take i xs)) (f x)
  largest_more xs i x lt is =
      ap (λ n. largest_by f (take n xs)) (let k : i + 1 ≡ suc i = omega arith in k) ∙ largest_next xs i x lt
      ∙ ap (λ (y : A). max (largest_by f (take i xs)) (f y)) (sym is)
