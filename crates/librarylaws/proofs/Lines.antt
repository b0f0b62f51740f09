-- The lines of a library, sorted, are those of its export order.
use Rattle.std.proofs.Common.{◌≡◌, ◌<◌, ◌+◌, ℕ, List, [], ◌∷◌, length, get_or, set, map, refl, sym, ap, subst, ◌∙◌, arith}
use Rattle.std.specs.Cmp.{IsTotalOrder}
use Rattle.std.specs.List.{swap}
use Rattle.std.specs.List.Sorted.{IsPermutation, IsSorted}
use Rattle.std.specs.Str.{bytes_eq}
use Rattle.std.proofs.lemmas.Cmp.{on_total, then_total, nat_cmp_total, nat_list_cmp_total}
use Rattle.std.proofs.lemmas.List.{get_or-map, map-set, length-map}
use Rattle.std.proofs.lemmas.List.Sorted.{IsPermutation-refl, IsPermutation-trans, IsPermutation-swap, IsPermutation-keeps}
use Rattle.mmsyntax.specs.Assertions.{Distinct}
use Rattle.library.specs.declared.command.Line.{Line}
use Rattle.library.specs.declared.library.Ranked.{Ranked}
use Rattle.library.specs.Library.{label_of, entry_cmp, in_export_order}
use Rattle.library.specs.Edits.{listing_line, line_cmp}
use Rattle.librarylaws.proofs.Listing.{in-export-order-is}

pub line_cmp_total : IsTotalOrder line_cmp
line_cmp_total = then_total (on_total (λ (l : Line). l.rank) nat_cmp_total) (on_total (λ (l : Line). l.label) nat_list_cmp_total)

swap_map : {A B : Type 0} (f : A → B) (xs : List A) (i j : ℕ) → i < length xs → j < length xs → swap (map f xs) i j ≡ map f (swap xs i j)
swap_map f [] i j i_in j_in = refl
swap_map f (x ∷ xs) i j i_in j_in =
    let zs = x ∷ xs in
    ap (λ y. set (set (map f zs) i y) j (get_or (map f zs) i (f x))) (get_or-map f zs j x (f x) j_in)
    ∙ ap (λ y. set (set (map f zs) i (f (get_or zs j x))) j y) (get_or-map f zs i x (f x) i_in)
    ∙ ap (λ ys. set ys j (f (get_or zs i x))) (sym (map-set f zs i (get_or zs j x)))
    ∙ sym (map-set f (set zs i (get_or zs j x)) j (get_or zs i x))

-- a list of images in another order is the images of the list in another order
module _ {A B : Type 0} (f : A → B) (xs : List A) where
  abbrev IsOfOrder : List B → Type 0
  IsOfOrder ys = (zs : List A) × IsPermutation xs zs × (ys ≡ map f zs)

  order_lifted : (ys : List B) → IsPermutation (map f xs) ys → IsOfOrder ys
  order_lifted ys p =
      IsPermutation-keeps (map f xs) IsOfOrder (xs, IsPermutation-refl xs, refl) (λ l i j i_in j_in h.
      let n : length l ≡ length h.0 = ap (λ (b : List B). length b) h.2 ∙ length-map h.0 f in
      let i_under : i < length h.0 = omega (arith, n) in
      let j_under : j < length h.0 = omega (arith, n) in (
        swap h.0 i j,
        IsPermutation-trans xs h.0 (swap h.0 i j) h.1 (IsPermutation-swap h.0 (swap h.0 i j) i j i_under j_under refl),
        ap (λ (b : List B). swap b i j) h.2 ∙ swap_map f h.0 i j i_under j_under,
      )) ys p

-- entries whose lines are sorted are sorted
entries_sorted : (lib es : List Ranked) → IsSorted line_cmp (map (listing_line lib) es) → IsSorted entry_cmp es
entries_sorted lib es up k d le next =
    let f = listing_line lib in
    let here : k < length es = omega arith in
    rw (get_or-map f es (k + 1) d (f d) next, get_or-map f es k d (f d) here) at (up k (f d) le (omega (arith, length-map es f)))

pub lines_in_order : (lib : List Ranked) (ls : List Line) → Distinct bytes_eq (map label_of lib)
    → IsPermutation (map (listing_line lib) lib) ls
    → IsSorted line_cmp ls → ls ≡ map (listing_line lib) (in_export_order lib)
lines_in_order lib ls apart perm up =
    let z = order_lifted (listing_line lib) lib ls perm in
    let ordered = entries_sorted lib z.0 (subst (IsSorted line_cmp) z.2 up) in
    z.2 ∙ ap (map (listing_line lib)) (in-export-order-is lib z.0 apart (record { same = z.1; ordered = ordered }))
