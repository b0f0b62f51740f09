-- Texts in order: just one list of the same texts is in order.
use Rattle.std.proofs.Common.{◌≡◌, ◌∙◌, ℕ, ◌+◌, ◌<◌, Bool, true, false, cond, inl, inr, List, [], ◌∷◌, map, get_or, refl, sym, ap, subst, arith, add-one}
use Rattle.std.specs.Prelude.{IsPermutation, sum_by}
use Rattle.std.specs.Str.{bytes_eq}
use Rattle.std.specs.Ordering.{is_lt, is_eq, ordering_reverse, nat_cmp}
use Rattle.std.specs.Cmp.Lexicographic.{slice_cmp}
use Rattle.std.specs.List.Sorted.{IsSortedBy}
use Rattle.std.specs.declared.cmp.Ordering.{Ordering}
use Rattle.std.specs.declared.cmp.Ordering.TheVariants.{Less, Equal, Greater}
use Rattle.std.proofs.lemmas.Bool.{cases_Bool}
use Rattle.std.proofs.lemmas.Cmp.{nat_list_cmp_total}
use Rattle.std.proofs.lemmas.List.Sums.{sum_by-cons}
use Rattle.std.proofs.lemmas.List.Sorted.{sum_by-IsPermutation, IsPermutation-map}
use Rattle.std.proofs.lemmas.Map.Text.{is_eq-slice_cmp}
use Rattle.std.proofs.lemmas.Slice.Eq.{bytes_eq-Decides}
use Rattle.mmtext.specs.Words.{Word}

abbrev order : Word → Word → Ordering
order x y = slice_cmp nat_cmp x y

abbrev less : Word → Word → Bool
less x y = is_lt (order x y)

-- ---- the order

module _ (x y z : Word) (up : less y z ≡ false) where
  chain_so : (a c : Ordering) → order x y ≡ a → order x z ≡ c → is_lt a ≡ false → is_lt c ≡ false
  chain_so Less c ea ec h = absurd cc
  chain_so Equal Less ea ec h =
      let e : order y z ≡ Less = sym (nat_list_cmp_total.congr x y z ea) ∙ ec in
      let f : true ≡ false = sym (ap is_lt e) ∙ up in
      absurd cc
  chain_so Greater Less ea ec h =
      let back : order y x ≡ Less = nat_list_cmp_total.antisymm y x ∙ ap ordering_reverse ea in
      let f : true ≡ false = sym (ap is_lt (nat_list_cmp_total.trans y x z back ec)) ∙ up in
      absurd cc
  chain_so Equal Equal ea ec h = refl
  chain_so Equal Greater ea ec h = refl
  chain_so Greater Equal ea ec h = refl
  chain_so Greater Greater ea ec h = refl

chain : (x y z : Word) → less x y ≡ false → less y z ≡ false → less x z ≡ false
chain x y z h k = chain_so x y z k (order x y) (order x z) refl refl h

equal_so : (x y : Word) (a : Ordering) → order x y ≡ a → is_lt a ≡ false → less y x ≡ false → x ≡ y
equal_so x y Less e h k = absurd cc
equal_so x y Equal e h k = (bytes_eq-Decides x y).0 (sym (is_eq-slice_cmp x y) ∙ ap is_eq e)
equal_so x y Greater e h k =
    let back : order y x ≡ Less = nat_list_cmp_total.antisymm y x ∙ ap ordering_reverse e in
    let f : true ≡ false = sym (ap is_lt back) ∙ k in
    absurd cc

equal : (x y : Word) → less x y ≡ false → less y x ≡ false → x ≡ y
equal x y h k = equal_so x y (order x y) refl h k

same_text : (x : Word) → bytes_eq x x ≡ true
same_text x = (bytes_eq-Decides x x).1 refl

not_less : (x : Word) → less x x ≡ false
not_less x = at (order x x) refl
  where
    at : (a : Ordering) → order x x ≡ a → is_lt a ≡ false
    at Less e = absurd (let f : Less ≡ Greater = sym e ∙ nat_list_cmp_total.antisymm x x ∙ ap ordering_reverse e in cc)
    at Equal e = refl
    at Greater e = refl

-- ---- lists in order

abbrev pub Ascends : List Word → Type 0
Ascends [] = Unit {0}
Ascends (x ∷ []) = Unit {0}
Ascends (x ∷ y ∷ ys) = (less y x ≡ false) × Ascends (y ∷ ys)

-- how often a text is among some
abbrev hit : Word → Word → ℕ
hit c x = cond (bytes_eq c x) 1 0

abbrev pub times : Word → List Word → ℕ
times c [] = 0
times c (x ∷ xs) = hit c x + times c xs

behind : (x : Word) (xs : List Word) → Ascends (x ∷ xs) → Ascends xs
behind x [] h = tt
behind x (y ∷ ys) h = h.1

hit_one : (c x : Word) → bytes_eq c x ≡ true → hit c x ≡ 1
hit_one c x e = ap (λ (b : Bool). cond b 1 0) e

hit_none : (c x : Word) → bytes_eq c x ≡ false → hit c x ≡ 0
hit_none c x e = ap (λ (b : Bool). cond b 1 0) e

low : (c x : Word) (xs : List Word) → Ascends (x ∷ xs) → 0 < times c (x ∷ xs) → less c x ≡ false
low c x [] h some = elim (cases_Bool (bytes_eq c x)) [
  | inl y ↦ subst (λ (w : Word). less c w ≡ false) ((bytes_eq-Decides c x).0 y) (not_less c)
  | inr n ↦ absurd (let e = hit_none c x n in omega arith)
]
low c x (y ∷ ys) h some = elim (cases_Bool (bytes_eq c x)) [
  | inl e ↦ subst (λ (w : Word). less c w ≡ false) ((bytes_eq-Decides c x).0 e) (not_less c)
  | inr n ↦ chain c y x (low c y ys h.1 (let e = hit_none c x n in omega arith)) h.0
]

pub one_order : (us vs : List Word) → Ascends us → Ascends vs → ((c : Word) → times c us ≡ times c vs) → us ≡ vs
one_order [] [] a b h = refl
one_order [] (v ∷ vs) a b h = absurd (let e = h v in let f = hit_one v v (same_text v) in omega arith)
one_order (u ∷ us) [] a b h = absurd (let e = h u in let f = hit_one u u (same_text u) in omega arith)
one_order (u ∷ us) (v ∷ vs) a b h =
    let hu = h u in
    let hv = h v in
    let one = hit_one u u (same_text u) in
    let other = hit_one v v (same_text v) in
    let up : less u v ≡ false = low u v vs b (omega arith) in
    let down : less v u ≡ false = low v u us a (omega arith) in
    let first : u ≡ v = equal u v up down in
    let left : (c : Word) → times c us ≡ times c vs = λ c. let e = h c in let f = ap (hit c) first in omega arith in
    let others = one_order us vs (behind u us a) (behind v vs b) left in
    ap (λ (w : Word). w ∷ us) first ∙ ap (λ (ws : List Word). v ∷ ws) others

-- ---- from a sort

times_sum : (c : Word) (xs : List Word) → sum_by (hit c) xs ≡ times c xs
times_sum c [] = refl
times_sum c (x ∷ xs) = sum_by-cons (hit c) x xs ∙ ap (λ (n : ℕ). hit c x + n) (times_sum c xs)

pub as_often : (xs ys : List Word) → IsPermutation xs ys → (c : Word) → times c xs ≡ times c ys
as_often xs ys h c = sym (times_sum c xs) ∙ sym (sum_by-IsPermutation (hit c) xs ys h) ∙ times_sum c ys

next_at : {X : Type 0} (x : X) (xs : List X) (k : ℕ) (d : X) → get_or (x ∷ xs) (k + 1) d ≡ get_or xs k d
next_at x xs k d = rw add-one refl

pub in_order : {X : Type 0} (key : X → Word) (xs : List X) → IsSortedBy (λ x y. less (key x) (key y)) xs → Ascends (map key xs)
in_order key [] h = tt
in_order key (x ∷ []) h = tt
in_order {X} key (x ∷ y ∷ ys) h = (
  h 0 x (omega arith) (omega arith),
  in_order key (y ∷ ys) (λ k d from within.
      let now = get_or (y ∷ ys) k d in
      let after = get_or (x ∷ y ∷ ys) (k + 1 + 1) d in
      subst (λ (v : X). less (key v) (key now) ≡ false) (next_at x (y ∷ ys) (k + 1) d)
      (subst (λ (v : X). less (key after) (key v) ≡ false) (next_at x (y ∷ ys) k d) (h (k + 1) d (omega arith) (omega arith)))),
)

-- the same texts in order are the same lists
pub same_sorted : {X : Type 0} (key : X → Word) (xs ys us vs : List X) → IsPermutation xs us → IsPermutation ys vs
    → IsSortedBy (λ x y. less (key x) (key y)) us → IsSortedBy (λ x y. less (key x) (key y)) vs
    → IsPermutation (map key xs) (map key ys) → map key us ≡ map key vs
same_sorted key xs ys us vs p q h k same =
    one_order (map key us) (map key vs) (in_order key us h) (in_order key vs k)
    (λ c. sym (as_often (map key xs) (map key us) (IsPermutation-map key xs us p) c)
    ∙ as_often (map key xs) (map key ys) same c
    ∙ as_often (map key ys) (map key vs) (IsPermutation-map key ys vs q) c)
