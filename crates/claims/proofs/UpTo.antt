-- The numbers from 0 up to one.
use Rattle.std.proofs.Common.{◌≡◌, ℕ, zero, suc, ◌<◌, [], ◌∷◌, All, inl, inr, arith}
use Rattle.std.proofs.lemmas.Bool.{cases_lt}
use Rattle.std.proofs.lemmas.List.Elements.{All-nil, All-cons, All-append, All-weaker}
use Rattle.ranges.specs.Ranges.{Has}
use Rattle.ranges.proofs.Members.{has_append_left, has_append_right}
use Rattle.claims.specs.Claims.{up_to}

pub each_below : (n : ℕ) → All (λ m. m < n) (up_to n)
each_below zero = All-nil (λ m. m < 0)
each_below (suc n) =
    let before : All (λ m. m < suc n) (up_to n) =
    All-weaker (λ m. m < n) (λ m. m < suc n) (λ m l. omega (arith, l)) (up_to n) (each_below n) in
    All-append (λ m. m < suc n) (up_to n) (n ∷ []) before (All-cons (λ m. m < suc n) n [] (omega arith) (All-nil (λ m. m < suc n)))

pub below_has : (n k : ℕ) → k < n → Has k (up_to n)
below_has zero k within = absurd (omega (arith, within))
below_has (suc n) k within =
    elim (cases_lt k n) [
      | inl front ↦ has_append_left (up_to n) (n ∷ []) k (below_has n k front)
      | inr last ↦ has_append_right (up_to n) (n ∷ []) k (inl (omega (arith, within, last)))
    ]
