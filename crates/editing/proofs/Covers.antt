-- As many numbers as they count up to, none of which is left out, are those from 1 on in another order.
use Rattle.std.proofs.Common.{◌≡◌, ℕ, zero, suc, ◌<◌, List, [], ◌∷◌, ◌++◌, length, map, inl, inr, sym, subst, arith}
use Rattle.std.specs.Prelude.{IsPermutation}
use Rattle.std.specs.List.{remove}
use Rattle.std.proofs.lemmas.List.{map-append, nil_from_length}
use Rattle.std.proofs.lemmas.List.Sorted.{IsPermutation-refl, IsPermutation-cons, IsPermutation-sym, IsPermutation-trans}
use Rattle.std.proofs.lemmas.List.Sorted.{IsPermutation-remove, IsPermutation-to_front, length_permutation}
use Rattle.ranges.proofs.Members.{contains_from_has, has_permutation}
use Rattle.claims.specs.Claims.{up_to}
use Rattle.ranges.specs.Ranges.{Has}

-- what stands in a list and isn't the first stands behind it
behind : (n m : ℕ) (rest : List ℕ) → n < m → Has (suc n) (suc m ∷ rest) → Has (suc n) rest
behind n m rest less (inl same) = absurd (omega (arith, less, same))
behind n m rest less (inr has) = has

pub covers : (n : ℕ) (xs : List ℕ) → length xs ≡ n → ((i : ℕ) → i < n → Has (suc i) xs) → IsPermutation (map suc (up_to n)) xs
covers zero xs long each = subst (IsPermutation []) (sym (nil_from_length xs long)) (IsPermutation-refl [])
covers (suc n) xs long each =
    let last = contains_from_has xs (suc n) (each n (omega arith)) in
    let rest = remove xs last.0 in
    let front : IsPermutation xs (suc n ∷ rest) = IsPermutation-remove xs last.0 (suc n) last.1 (sym last.2) in
    let size = length_permutation xs (suc n ∷ rest) front in
    let others = covers n rest (omega (arith, size, long)) (λ i less.
    behind i n rest less (has_permutation xs (suc n ∷ rest) (suc i) front (each i (omega (arith, less))))) in
    let counted = map suc (up_to n) in
    subst (λ ys. IsPermutation ys xs) (sym (map-append suc (up_to n) (n ∷ [])))
    (IsPermutation-trans (counted ++ suc n ∷ []) (suc n ∷ counted) xs (IsPermutation-to_front counted (suc n))
    (IsPermutation-trans (suc n ∷ counted) (suc n ∷ rest) xs (IsPermutation-cons (suc n) counted rest others)
    (IsPermutation-sym xs (suc n ∷ rest) front)))
