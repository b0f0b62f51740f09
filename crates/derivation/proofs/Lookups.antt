-- What a look-up finds among sorted pairs.
use Rattle.std.proofs.Common.{◌≡◌, ◌<◌, ◌+◌, ℕ, List, Result, Ok, Err, length, get_or, take, drop, length-drop}
use Rattle.std.specs.List.{HoldsAt}
use Rattle.std.proofs.Common.{refl, sym, ap, ◌∙◌, ⊎_elim, arith}
use Rattle.std.specs.Result.{result_ok}
use Rattle.std.specs.declared.cmp.Ordering.{Ordering}
use Rattle.std.specs.declared.cmp.Ordering.TheVariants.{Less, Equal, Greater}
use Rattle.std.specs.Ordering.{nat_cmp, ordering_reverse}
use Rattle.std.specs.Cmp.{IsTotalOrder, nat_cmp_total, then_total, on_total}
use Rattle.std.specs.List.Sorted.{IsBinarySearchResult, IsSearchInRange}
use Rattle.std.proofs.lemmas.Bool.Decides.{leb_tells}
use Rattle.std.proofs.lemmas.List.{get_or-take, get_or-drop, length-take}
use Rattle.std.proofs.lemmas.List.Sorted.{searchable_from_sorted}
use Rattle.std.proofs.lemmas.Map.Lookups.{exact_pairs, exact_unsigned}
use Rattle.derivation.specs.Lookups.{compared, ArePairsSorted, IsPlaceOfPair}

pairs_total : IsTotalOrder compared
pairs_total = then_total (on_total (λ t. t.0) nat_cmp_total) (on_total (λ t. t.1) nat_cmp_total)

same-pair : (p q : ℕ × ℕ) → compared p q ≡ Equal → p ≡ q
same-pair p q e = exact_pairs nat_cmp nat_cmp exact_unsigned exact_unsigned p q e

not-itself : (p : ℕ × ℕ) → compared p p ≡ Equal
not-itself p = level (compared p p) (pairs_total.antisymm p p)
  where
    level : (o : Ordering) → o ≡ ordering_reverse o → o ≡ Equal
    level Less e = cc
    level Equal e = refl
    level Greater e = cc

-- what `binary_search` tells of sorted pairs
pub pair-searched : (ps : List (ℕ × ℕ)) (p : ℕ × ℕ) (r : Result ℕ ℕ) → ArePairsSorted ps → IsSearchInRange r (length ps)
    → IsBinarySearchResult (λ q. compared q p) ps r → IsPlaceOfPair ps p (result_ok r)
pair-searched ps p (Ok i) up within h = (within, same-pair (get_or ps i p) p (h p))
pair-searched ps p (Err i) up within h = λ there.
    let parted = h (searchable_from_sorted pairs_total (λ q. q) ps p up) in
    let level = not-itself p in
    ⊎_elim (λ low. let after = ap (λ q. compared q p) (sym there.2) ∙ parted.1 there.0 p low.1 there.1 in cc)
    (λ high. let before = ap (λ q. compared q p) (sym there.2) ∙ parted.0 there.0 p (omega arith) high.1 in cc)
    (leb_tells i there.0)

-- what it finds in a part of the pairs stands in all of them
pub found-near : (ps few : List (ℕ × ℕ)) (near n i : ℕ) (p : ℕ × ℕ) → few ≡ take n (drop near ps) → i < length few
    → HoldsAt (λ q. compared q p ≡ Equal) few i → (near + i < length ps) × (get_or ps (near + i) p ≡ p)
found-near ps few near n i p is lt h =
    let short = ap length is in
    let within : i < n = omega (arith, length-take {A = ℕ × ℕ}) in
    let read = ap (λ l. get_or l i p) is ∙ get_or-take n (drop near ps) i p within ∙ get_or-drop near ps i p in
    (omega (arith, length-take {A = ℕ × ℕ}, length-drop {A = ℕ × ℕ}), sym read ∙ same-pair (get_or few i p) p (h p))
