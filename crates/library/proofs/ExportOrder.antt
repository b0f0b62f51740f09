-- The export order is total, tells entries of different labels apart, and lists what a proof may cite before it.
use Rattle.std.proofs.Common.{◌≡◌, ℕ, ◌<◌, true, List, ◌++◌, length, get_or, take, drop, map, Ordering, sym, ap, subst, ◌∙◌, inl, inr}
use Rattle.std.proofs.Common.{arith}
use Rattle.std.specs.Cmp.{IsTotalOrder, nat_cmp_is}
use Rattle.std.specs.Cmp.Lexicographic.{slice_cmp, texts_ties}
use Rattle.std.specs.List.{Contains, All}
use Rattle.std.specs.Ordering.{nat_cmp, is_eq, is_lt, ordering_then}
use Rattle.std.specs.Str.{bytes_eq}
use Rattle.std.specs.declared.cmp.Ordering.TheVariants.{Less, Equal, Greater}
use Rattle.std.proofs.lemmas.Bool.{cases_eq, cases_lt, both_ways}
use Rattle.std.proofs.lemmas.Cmp.{on_total, then_total, nat_cmp_total, nat_list_cmp_total}
use Rattle.std.proofs.lemmas.List.{same_lists, get_or_default, get_or-map, get_or-take, length-map, length-take, map-append}
use Rattle.std.proofs.lemmas.List.{take-append-drop}
use Rattle.std.proofs.lemmas.List.Elements.{Contains-get_or}
use Rattle.std.proofs.lemmas.List.Sorted.{IsPermutation-sym, IsPermutation-trans, IsPermutation-map, Contains-permutation}
use Rattle.std.proofs.lemmas.List.Sorted.{length_permutation}
use Rattle.std.proofs.lemmas.List.Sorted.{ranks_by, sorted_far}
use Rattle.std.proofs.lemmas.Option.{slice_get_within, get_or_from_slice_get}
use Rattle.mmsyntax.specs.declared.statement.Assertion.{Assertion}
use Rattle.mmsyntax.specs.Assertions.{Distinct}
use Rattle.mmsyntax.proofs.Distinct.{distinct_left}
use Rattle.mmsyntax.proofs.Names.{same_bytes}
use Rattle.derivation.specs.Databases.{frame_in}
use Rattle.derivation.specs.Derivation.{Checks}
use Rattle.library.specs.declared.library.Ranked.{Ranked}
use Rattle.library.specs.Library.{label_of, lower, citable, IsInExportOrder, entry_cmp}
use Rattle.library.specs.Laws.{ExportOrderIsOne, ShownLibrariesCheck}
use Rattle.library.proofs.Derivations.{checks_within}
use Rattle.library.proofs.Frames.{labels, frames_within}
use Rattle.library.proofs.Labels.{distinct_permutation}
use Rattle.library.proofs.Lower.{lower_all, labels-assertions}
use Rattle.library.proofs.Places.{labels_apart}
use Rattle.library.proofs.Orders.{ties_at}

pub entry_cmp_total : IsTotalOrder entry_cmp
entry_cmp_total = then_total (on_total (λ (e : Ranked). e.rank) nat_cmp_total) (on_total label_of nat_list_cmp_total)

second_Equal : (o p : Ordering) → ordering_then o p ≡ Equal → p ≡ Equal
second_Equal Less p h = absurd cc
second_Equal Equal p h = h
second_Equal Greater p h = absurd cc

-- entries that tie have one label
one_label : (e f : Ranked) → entry_cmp e f ≡ Equal → label_of e ≡ label_of f
one_label e f h =
    let l = label_of e in
    let m = label_of f in
    same_bytes l m (texts_ties l m ∙ ap is_eq (second_Equal (nat_cmp e.rank f.rank) (slice_cmp nat_cmp l m) h))

-- where labels differ, an entry of the list with the label of another is that one
one_entry : (lib : List Ranked) → Distinct bytes_eq (map label_of lib) → (k : ℕ) (d x : Ranked) → k < length lib → Contains lib x
    → label_of (get_or lib k d) ≡ label_of x → get_or lib k d ≡ x
one_entry lib apart k d x k_in at h =
    let m = at.0 in
    elim (cases_eq k m) [
      | inl e ↦ ap (λ i. get_or lib i d) e ∙ get_or_default lib m d x at.1 ∙ at.2
      | inr ne ↦ absurd (labels_apart lib apart m k d at.1 k_in ne (h ∙ ap label_of (sym at.2 ∙ get_or_default lib m x d at.1)))
    ]

pub one_export_order : ExportOrderIsOne
one_export_order lib a b apart p q =
    let there = IsPermutation-trans a lib b (IsPermutation-sym lib a p.same) q.same in
    let back = IsPermutation-sym a b there in
    let differ = distinct_permutation (map label_of lib) (map label_of a) (IsPermutation-map label_of lib a p.same) apart in
    let n = length_permutation a b there in
    same_lists a b (sym n) (λ k d k_in.
    let b_in : k < length b = omega arith in
    one_entry a differ k d (get_or b k d) k_in (Contains-permutation b a (get_or b k d) back (Contains-get_or b k d b_in))
    (one_label (get_or a k d) (get_or b k d) (ties_at entry_cmp_total a b there back p.ordered q.ordered k d k_in)))

-- ---- what stands earlier

-- an entry of lower rank comes first
comes_first : (e f : Ranked) → e.rank < f.rank → is_lt (entry_cmp e f) ≡ true
comes_first e f lt =
    ap (λ o. is_lt (ordering_then o (slice_cmp nat_cmp (label_of e) (label_of f)))) (sym (nat_cmp_is e.rank f.rank Less lt))

-- so in export order it stands earlier
stands_earlier : (lib : List Ranked) → IsInExportOrder lib → (j k : ℕ) (d : Ranked) → j < length lib → k < length lib
    → (get_or lib j d).rank < (get_or lib k d).rank → j < k
stands_earlier lib ordered j k d j_in k_in lower =
    elim (cases_lt j k) [
      | inl lt ↦ lt
      | inr le ↦
          let weak = ranks_by entry_cmp_total (λ (x : Ranked). x) in
          let not_first = sorted_far (λ x y. is_lt (entry_cmp x y)) weak lib ordered k j d le j_in in
          absurd (both_ways _ not_first (comes_first (get_or lib j d) (get_or lib k d) lower))
    ]

lower_earlier : (lib : List Ranked) → IsInExportOrder lib → (k : ℕ) (d : Ranked) → k < length lib
    → All (Contains (take k (map (λ e. e.assertion) lib))) (lower lib (get_or lib k d).rank)
lower_earlier lib ordered k d k_in =
    let assertion = λ (e : Ranked). e.assertion in
    let shown = map assertion lib in
    lower_all (Contains (take k shown)) lib (get_or lib k d).rank (λ f at lt.
    let j = at.0 in
    let here = get_or_default lib j d f at.1 ∙ at.2 in
    let before = stands_earlier lib ordered j k d at.1 k_in (subst (λ x. x.rank < (get_or lib k d).rank) (sym here) lt) in
    let length_shown = length-map lib assertion in
    let read = get_or-take k shown j f.assertion before ∙ get_or-map assertion lib j f f.assertion at.1 ∙ ap assertion at.2 in
    (j, omega (arith, length-take k shown), read))

-- in export order each proof checks over the assertions that stand earlier
pub shown_check : ShownLibrariesCheck
shown_check l v ordered k a at =
    let lib = l.entries in
    let assertion = λ (e : Ranked). e.assertion in
    let shown = map assertion lib in
    let d : Ranked = record { rank = 0; assertion = a } in
    let k_in : k < length lib = omega (arith, slice_get_within shown k a at, length-map lib assertion) in
    let here : assertion (get_or lib k d) ≡ a = sym (get_or-map assertion lib k d a k_in) ∙ get_or_from_slice_get shown k a a at in
    let parts : labels (take k shown) ++ labels (drop k shown) ≡ map label_of lib =
    sym (map-append (λ (b : Assertion). b.label) (take k shown) (drop k shown))
    ∙ ap labels (take-append-drop k shown) ∙ labels-assertions lib in
    let apart = distinct_left bytes_eq (labels (take k shown)) (labels (drop k shown))
    (subst (Distinct bytes_eq) (sym parts) v.library.distinct) in
    let p = l.setting.prelude in
    let e = get_or lib k d in
    let within = frames_within p (lower lib e.rank) (take k shown) apart (lower_earlier lib ordered k d k_in) in
    subst (Checks (frame_in p (take k shown)) p) here
    (checks_within (citable l.setting lib e.rank) (frame_in p (take k shown)) p e.assertion within (v.checks k d k_in))
