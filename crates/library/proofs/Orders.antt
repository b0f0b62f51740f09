-- Sorted lists: what a sort by a comparing closure leaves, and that a total order sorts a list in one way.
use Rattle.std.proofs.Common.{◌≡◌, ℕ, ◌<◌, ◌≤◌, Bool, false, List, length, get_or, Ordering, refl, ap, arith}
use mathlib.Core.Bool.{not}
use denote.Param.Members.{Mut}
use denote.Ref.{Bor}
use Rattle.std.specs.Cmp.{IsTotalOrder, IsStrictWeakOrder}
use Rattle.std.specs.Fn.{Called, ComparesAs}
use Rattle.std.specs.List.{count_by}
use Rattle.std.specs.List.Sorted.{IsPermutation, IsSorted, IsSortedBy}
use Rattle.std.specs.Ordering.{is_lt, ordering_reverse}
use Rattle.std.specs.declared.cmp.Ordering.TheVariants.{Less, Equal, Greater}
use Rattle.std.proofs.lemmas.Bool.{both_ways, false_from_ne_true, true_from_ne_false}
use Rattle.std.proofs.lemmas.Fn.{always_returns_same}
use Rattle.std.proofs.lemmas.List.Sorted.{ranks_by, sorted_far, length_permutation, sum_by-IsPermutation}
use Rattle.library.proofs.Counts.{one_if, counted_front, counted_back}

-- ---- after a sort

-- from the clause `sorted` of a sort by a closure that compares by R
pub sorted_by : {X : Type 0} {R : X → X → Ordering} (o : IsTotalOrder R) {F : Type 0} {g : Mut F (Bor X × (Bor X × Unit {0})) Ordering}
    {f : F} (xs : List X) → ((lt : X → X → Bool) → IsStrictWeakOrder lt → ComparesAs g lt f → IsSortedBy lt xs)
    → ((a : Bor X × (Bor X × Unit {0})) (r : Ordering) (f' : F) → Called g f a r f' → (r ≡ R a.0.now a.1.0.now) × (f' ≡ f)) → IsSorted R xs
sorted_by {X} {R} o {F} {g} {f} xs up h =
    up (λ x y. is_lt (R x y)) (ranks_by o (λ x. x))
    (always_returns_same g (λ a r. is_lt r ≡ is_lt (R a.0.now a.1.0.now)) f (λ a r f' k. (ap is_lt (h a r f' k).0, (h a r f' k).1)))

-- ---- two sorted lists of the same elements

tied : (o p : Ordering) → o ≡ ordering_reverse p → is_lt o ≡ false → is_lt p ≡ false → o ≡ Equal
tied Less p e h g = absurd cc
tied Equal p e h g = refl
tied Greater Less e h g = absurd cc
tied Greater Equal e h g = absurd cc
tied Greater Greater e h g = absurd cc

module _ {X : Type 0} {R : X → X → Ordering} (o : IsTotalOrder R) where
  abbrev lt : X → X → Bool
  lt x y = is_lt (R x y)

  -- the element at a place of one is not below that of the other
  not_below : (xs ys : List X) → IsPermutation xs ys → IsSorted R xs → IsSorted R ys → (k : ℕ) (d : X) → k < length ys
      → is_lt (R (get_or ys k d) (get_or xs k d)) ≡ false
  not_below xs ys same up rise k d k_in =
      let y = get_or ys k d in
      let x = get_or xs k d in
      let weak = ranks_by o (λ (a : X). a) in
      let upto = λ (e : X). not (is_lt (R y e)) in
      false_from_ne_true (is_lt (R y x)) (λ below.
      let front : k < count_by upto ys = counted_front upto ys k d k_in (λ j le. ap not (sorted_far lt weak ys rise j k d le k_in)) in
      let above = λ (j : ℕ) (le : k ≤ j) (j_in : j < length xs).
      let z = get_or xs j d in
      true_from_ne_false (is_lt (R y z))
      (λ q. both_ways (is_lt (R y x)) (weak.chain y z x q (sorted_far lt weak xs up k j d le j_in)) below) in
      let back : count_by upto xs ≤ k = counted_back upto xs k d (λ j le j_in. ap not (above j le j_in)) in
      omega (arith, sum_by-IsPermutation (one_if upto) xs ys same))

  -- so they tie
  pub ties_at : (xs ys : List X) → IsPermutation xs ys → IsPermutation ys xs → IsSorted R xs → IsSorted R ys → (k : ℕ) (d : X)
      → k < length xs → R (get_or xs k d) (get_or ys k d) ≡ Equal
  ties_at xs ys there back up rise k d k_in =
      let x = get_or xs k d in
      let y = get_or ys k d in
      let n = length_permutation xs ys there in
      tied (R x y) (R y x) (o.antisymm x y) (not_below ys xs back rise up k d k_in) (not_below xs ys there up rise k d (omega arith))
