-- Which assertion a label cites in front of a place.
use Rattle.std.proofs.Common.{◌≡◌, ◌∙◌, ℕ, zero, suc, ◌<◌, ◌≤◌, Bool, true, false, List, [], ◌∷◌, length, take, Option, Some, None, refl, ap, arith}
use Rattle.std.specs.Prelude.{find, slice_get, if◌then◌else◌}
use Rattle.std.specs.Option.{option_map}
use Rattle.mmsyntax.specs.Tables.{place_of}

at_first : (b : Bool) (o : Option ℕ) → (if b then Some 0 else option_map (λ n. suc n) o) ≡ Some 0 → b ≡ true
at_first true o h = refl
at_first false None h = absurd cc
at_first false (Some n) h = absurd cc

at_later : (b : Bool) (o : Option ℕ) (k : ℕ) → (if b then Some 0 else option_map (λ n. suc n) o) ≡ Some (suc k) → (b ≡ false) × (o ≡ Some k)
at_later true o k h = absurd cc
at_later false None k h = absurd cc
at_later false (Some n) k h = (refl, cc)

module _ {A : Type 0} (p : A → Bool) where
  pub in_front : (xs : List A) (n k : ℕ) → place_of p xs ≡ Some k → k < n
      → (c : A) × (k < length xs) × (slice_get xs k ≡ Some c) × (find p (take n xs) ≡ Some c)
  in_front xs zero k h lt = absurd (omega arith)
  in_front [] (suc n) k h lt = absurd cc
  in_front (x ∷ xs) (suc n) zero h lt =
      (x, omega arith, refl, ap (λ b. if b then Some x else find p (take n xs)) (at_first (p x) (place_of p xs) h))
  in_front (x ∷ xs) (suc n) (suc k) h lt =
      let both = at_later (p x) (place_of p xs) k h in
      let rest = in_front xs n k both.1 (omega arith) in
      let within = rest.1 in
      (rest.0, omega arith, rest.2, ap (λ b. if b then Some x else find p (take n xs)) both.0 ∙ rest.3)

  pub behind : (xs : List A) (n k : ℕ) → place_of p xs ≡ Some k → n ≤ k → find p (take n xs) ≡ None
  behind xs zero k h le = refl
  behind [] (suc n) k h le = absurd cc
  behind (x ∷ xs) (suc n) zero h le = absurd (omega arith)
  behind (x ∷ xs) (suc n) (suc k) h le =
      let both = at_later (p x) (place_of p xs) k h in
      ap (λ b. if b then Some x else find p (take n xs)) both.0 ∙ behind xs n k both.1 (omega arith)
