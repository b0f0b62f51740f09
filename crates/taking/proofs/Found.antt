-- The first of numbered items that passes.
use Rattle.std.proofs.Common.{◌≡◌, ◌<◌, ◌≤◌, ℕ, zero, suc, ◌+◌, Bool, true, false, map, refl, ap, ◌∙◌, arith, inl, inr}
use Rattle.std.proofs.Math.Nat.{eq-or-lt_of_le}
use Rattle.std.specs.Prelude.{Some, None, find, if◌then◌else◌}
use Rattle.std.specs.List.{range_with_len}

module _ {A : Type 0} (test : A → Bool) (f : ℕ → A) where
  -- none before it does
  pub found : (a n k : ℕ) → a ≤ k → k < a + n → ((j : ℕ) → a ≤ j → j < k → test (f j) ≡ false) → test (f k) ≡ true
      → find test (map f (range_with_len a n)) ≡ Some (f k)
  found a zero k h g none passes = absurd (omega arith)
  found a (suc n) k h g none passes =
      elim (eq-or-lt_of_le h) [
        | inl e ↦ ap (λ b. if b then Some (f a) else find test (map f (range_with_len (a + 1) n))) (ap (λ j. test (f j)) e ∙ passes) ∙
            ap (λ j. Some (f j)) e
        | inr lt ↦
            ap (λ b. if b then Some (f a) else find test (map f (range_with_len (a + 1) n))) (none a (omega arith) lt)
            ∙ found (a + 1) n k (omega arith) (omega arith) (λ j p q. none j (omega arith) q) passes
      ]

  -- none does
  pub not_found : (a n : ℕ) → ((j : ℕ) → a ≤ j → j < a + n → test (f j) ≡ false) → find test (map f (range_with_len a n)) ≡ None
  not_found a zero none = refl
  not_found a (suc n) none =
      ap (λ b. if b then Some (f a) else find test (map f (range_with_len (a + 1) n))) (none a (omega arith) (omega arith))
      ∙ not_found (a + 1) n (λ j p q. none j (omega arith) (omega arith))
