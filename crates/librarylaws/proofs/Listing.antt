-- The export order of a library: it lists the same assertions, sorted, and is the only list that does.
use Rattle.std.proofs.Common.{◌≡◌, ℕ, zero, suc, ◌+◌, ◌<◌, true, false, cond, List, [], ◌∷◌, length, get_or, map, Ordering, refl, ap}
use Rattle.std.proofs.Common.{arith}
use Rattle.std.specs.List.{All}
use Rattle.std.specs.List.Sorted.{IsPermutation}
use Rattle.std.specs.Ordering.{is_lt, is_le, ordering_reverse}
use Rattle.std.specs.Str.{bytes_eq}
use Rattle.std.specs.declared.cmp.Ordering.TheVariants.{Less, Equal, Greater}
use Rattle.std.proofs.lemmas.Bool.{cond_both}
use Rattle.std.proofs.lemmas.List.Elements.{All-cons, All-tail}
use Rattle.std.proofs.lemmas.List.Sorted.{IsPermutation-refl, IsPermutation-trans, IsPermutation-cons, IsPermutation-swap}
use Rattle.std.proofs.lemmas.List.Sorted.{All-permutation, ranks_by, sorted_far}
use Rattle.mmsyntax.specs.Assertions.{Distinct}
use Rattle.library.specs.declared.library.Ranked.{Ranked}
use Rattle.library.specs.Library.{label_of, entry_cmp, placed, in_export_order, IsInExportOrder, ShowsInOrder}
use Rattle.library.specs.Laws.{LibrariesAreShown}
use Rattle.library.proofs.ExportOrder.{entry_cmp_total, one_export_order}

-- ---- the same assertions

placed_same : (e : Ranked) (fs : List Ranked) → IsPermutation (e ∷ fs) (placed e fs)
placed_same e [] = IsPermutation-refl (e ∷ [])
placed_same e (f ∷ fs) =
    elim (is_le (entry_cmp e f)) as (λ b. IsPermutation (e ∷ f ∷ fs) (cond b (e ∷ f ∷ fs) (f ∷ placed e fs))) [
      | true ↦ IsPermutation-refl (e ∷ f ∷ fs)
      | false ↦
          let swapped : IsPermutation (e ∷ f ∷ fs) (f ∷ e ∷ fs) =
          IsPermutation-swap (e ∷ f ∷ fs) (f ∷ e ∷ fs) 0 1 (omega arith) (omega arith) refl in
          IsPermutation-trans (e ∷ f ∷ fs) (f ∷ e ∷ fs) (f ∷ placed e fs) swapped
          (IsPermutation-cons f (e ∷ fs) (placed e fs) (placed_same e fs))
    ]

order_same : (lib : List Ranked) → IsPermutation lib (in_export_order lib)
order_same [] = IsPermutation-refl []
order_same (e ∷ es) =
    IsPermutation-trans (e ∷ es) (e ∷ in_export_order es) (placed e (in_export_order es))
    (IsPermutation-cons e es (in_export_order es) (order_same es)) (placed_same e (in_export_order es))

-- ---- sorted

next_at : (e : Ranked) (fs : List Ranked) (k : ℕ) (d : Ranked) → get_or (e ∷ fs) (suc k + 1) d ≡ get_or fs (k + 1) d
next_at e fs k d = ap (λ n. get_or (e ∷ fs) n d) (let next : suc k + 1 ≡ suc (k + 1) = omega arith in next)

-- an entry in front of a sorted list that does not begin with a lower one
first_sorted : (e : Ranked) (fs : List Ranked) → ((d : Ranked) → 0 < length fs → is_lt (entry_cmp (get_or fs 0 d) e) ≡ false)
    → IsInExportOrder fs → IsInExportOrder (e ∷ fs)
first_sorted e fs first up = λ k d le lt. step k d lt
  where
    step : (k : ℕ) (d : Ranked) → k + 1 < length (e ∷ fs) → is_lt (entry_cmp (get_or (e ∷ fs) (k + 1) d) (get_or (e ∷ fs) k d)) ≡ false
    step zero d lt = first d (omega arith)
    step (suc k) d lt = rw (next_at e fs k d) (up k d (omega arith) (omega arith))

rest_sorted : (e : Ranked) (fs : List Ranked) → IsInExportOrder (e ∷ fs) → IsInExportOrder fs
rest_sorted e fs up = λ k d le lt. rw (next_at e fs k d) at (up (suc k) d (omega arith) (omega arith))

-- an entry does not come before another
abbrev Behind : Ranked → Ranked → Type 0
Behind e f = is_lt (entry_cmp f e) ≡ false

none_before : (e : Ranked) (fs : List Ranked) → IsInExportOrder (e ∷ fs) → All (Behind e) (e ∷ fs)
none_before e fs up i d lt =
    sorted_far (λ x y. is_lt (entry_cmp x y)) (ranks_by entry_cmp_total (λ (x : Ranked). x)) (e ∷ fs) up 0 i d (omega arith) lt

not_behind : (o p : Ordering) → o ≡ ordering_reverse p → is_le p ≡ true → is_lt o ≡ false
not_behind o Less h le = cc
not_behind o Equal h le = cc
not_behind o Greater h le = absurd cc

is_behind : (o : Ordering) → is_le o ≡ false → is_lt o ≡ false
is_behind Less h = absurd cc
is_behind Equal h = refl
is_behind Greater h = refl

placed_sorted : (e : Ranked) (fs : List Ranked) → IsInExportOrder fs → IsInExportOrder (placed e fs)
placed_sorted e [] up = λ k d le lt. absurd (omega arith)
placed_sorted e (f ∷ fs) up =
    let o = entry_cmp e f in
    cond_both (is_le o) (e ∷ f ∷ fs) (f ∷ placed e fs) IsInExportOrder
    (λ y. first_sorted e (f ∷ fs) (λ d lt. not_behind (entry_cmp f e) o (entry_cmp_total.antisymm f e) y) up)
    (λ n.
    let behind = All-permutation (Behind f) (e ∷ fs) (placed e fs) (placed_same e fs)
    (All-cons (Behind f) e fs (is_behind o n) (All-tail (Behind f) f fs (none_before f fs up))) in
    first_sorted f (placed e fs) (λ d lt. behind 0 d lt) (placed_sorted e fs (rest_sorted f fs up)))

order_sorted : (lib : List Ranked) → IsInExportOrder (in_export_order lib)
order_sorted [] = λ k d le lt. absurd (omega arith)
order_sorted (e ∷ es) = placed_sorted e (in_export_order es) (order_sorted es)

-- ---- the only such list

pub library_shown : LibrariesAreShown
library_shown lib = record { same = order_same lib; ordered = order_sorted lib }

pub in-export-order-is : (lib xs : List Ranked) → Distinct bytes_eq (map label_of lib) → ShowsInOrder lib xs → xs ≡ in_export_order lib
in-export-order-is lib xs apart shown = one_export_order lib xs (in_export_order lib) apart shown (library_shown lib)
