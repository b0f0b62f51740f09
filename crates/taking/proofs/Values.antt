-- What nodes make: it stays as more is made, and each value comes from those of its arguments.
use Rattle.std.proofs.Common.{◌≡◌, ◌<◌, ℕ, suc, zero, ◌+◌, List, [], ◌∷◌, ◌++◌, length, map, refl, sym, ap, ◌∙◌, arith}
use Rattle.std.specs.Prelude.{Option, Some, None, slice_get, filter_map}
use Rattle.std.specs.Option.{option_map}
use Rattle.std.specs.List.{AllByRecursion, cons_option}
use Rattle.std.proofs.lemmas.List.{map-append, length_push, get_or_push, get_or_append_left}
use Rattle.std.proofs.lemmas.Option.{slice_get-map, slice_get-get_or}
use Rattle.taking.specs.Nodes.{Shared, values_behind, values}

-- ---- lists

-- one more item leaves those in front of it, and has a place behind them
module _ {A : Type 0} (xs : List A) (y : A) where
  pub get_front : (i : ℕ) → i < length xs → slice_get (xs ++ y ∷ []) i ≡ slice_get xs i
  get_front i h =
      let e = length_push xs y in
      slice_get-get_or (xs ++ y ∷ []) i y (omega arith)
      ∙ ap (λ z. Some z) (get_or_append_left xs (y ∷ []) y i h)
      ∙ sym (slice_get-get_or xs i y h)

  pub get_last : slice_get (xs ++ y ∷ []) (length xs) ≡ Some y
  get_last =
      let e = length_push xs y in
      slice_get-get_or (xs ++ y ∷ []) (length xs) y (omega arith) ∙ ap (λ z. Some z) (get_or_push xs y y (length xs) refl)

-- where two functions agree on the items
pub same_filter_map : {A B : Type 0} (g h : A → Option B) (xs : List A) → AllByRecursion (λ x. g x ≡ h x) xs → filter_map g xs ≡
    filter_map h xs
same_filter_map g h [] a = refl
same_filter_map g h (x ∷ xs) a = ap (λ z. cons_option z (filter_map g xs)) a.0 ∙ ap (cons_option (h x)) (same_filter_map g h xs a.1)

pub all_more : {A : Type 0} {P Q : A → Type 0} (f : (x : A) → P x → Q x) (xs : List A) → AllByRecursion P xs → AllByRecursion Q xs
all_more f [] a = tt
all_more f (x ∷ xs) a = (f x a.0, all_more f xs a.1)

map_got : {A B : Type 0} (f : A → B) (vs : List A) (ks : List ℕ)
    → map f (filter_map (slice_get vs) ks) ≡ filter_map (slice_get (map f vs)) ks
map_got f vs [] = refl
map_got {A} {B} f vs (k ∷ ks) =
    let cons : (o : Option A) → map f (cons_option o (filter_map (slice_get vs) ks)) ≡ cons_option (option_map f o) (map f (filter_map
    (slice_get vs) ks)) =
    λ o. elim o as (λ o. map f (cons_option o (filter_map (slice_get vs) ks)) ≡ cons_option (option_map f o) (map f (filter_map
    (slice_get vs) ks))) [
      | Some x ↦ refl
      | None ↦ refl
    ] in
    cons (slice_get vs k)
    ∙ ap (λ z. cons_option z (map f (filter_map (slice_get vs) ks))) (sym (slice_get-map f vs k))
    ∙ ap (cons_option (slice_get (map f vs) k)) (map_got f vs ks)

-- ---- options

pub mapped : {A B : Type 0} (f : A → B) (o : Option A) (y : B) → option_map f o ≡ Some y → (x : A) × (o ≡ Some x) × (f x ≡ y)
mapped f None y h = absurd cc
mapped f (Some x) y h = (x, refl, cc)

-- ---- values

module _ {A : Type 0} (make : ℕ → List A → A) where
  -- what is made of a node behind others
  one : List A → Shared → A
  one front n = make n.named (filter_map (slice_get front) n.arguments)

  kept : (front : List A) (ns : List Shared) (k : ℕ) → k < length front → slice_get (values_behind make front ns) k ≡ slice_get front k
  unfolding one
  kept front [] k h = refl
  kept front (n ∷ ns) k h =
      kept (front ++ one front n ∷ []) ns k (let e = length_push front (one front n) in omega arith) ∙ get_front front (one front n) k h

  as_long : (front : List A) (ns : List Shared) → length (values_behind make front ns) ≡ length front + length ns
  unfolding one
  as_long front [] = omega arith
  as_long front (n ∷ ns) =
      let e = length_push front (one front n) in
      let r = as_long (front ++ one front n ∷ []) ns in
      omega arith

  pub as_many : (ns : List Shared) → length (values make ns) ≡ length ns
  unfolding values
  as_many ns = let e = as_long [] ns in omega arith

  behind_more : (front : List A) (ns : List Shared) (n : Shared)
      → values_behind make front (ns ++ n ∷ []) ≡ values_behind make front ns ++ one (values_behind make front ns) n ∷ []
  unfolding one
  behind_more front [] n = refl
  behind_more front (x ∷ ns) n = behind_more (front ++ one front x ∷ []) ns n

  -- one more node
  pub values_more : (ns : List Shared) (n : Shared)
      → values make (ns ++ n ∷ []) ≡ values make ns ++ make n.named (filter_map (slice_get (values make ns)) n.arguments) ∷ []
  unfolding values one
  values_more ns n = behind_more [] ns n

  unrolled_behind : (front : List A) (ns : List Shared) (j k : ℕ) (n : Shared) → k ≡ length front + j → slice_get ns j ≡ Some n
      → AllByRecursion (λ i. i < k) n.arguments
      → slice_get (values_behind make front ns) k ≡ Some (one (values_behind make front ns) n)
  unfolding one
  unrolled_behind front [] j k n at is below = absurd cc
  unrolled_behind front (x ∷ ns) zero k n at is below =
      let same : x ≡ n = cc in
      let here : k ≡ length front = omega arith in
      let vs = values_behind make (front ++ one front x ∷ []) ns in
      let more = length_push front (one front x) in
      let agree : (i : ℕ) → i < k → slice_get front i ≡ slice_get vs i =
      λ i h.
      sym (kept (front ++ one front x ∷ []) ns i (omega arith)
      ∙ get_front front (one front x) i (omega arith)) in
      kept (front ++ one front x ∷ []) ns k (omega arith)
      ∙ ap (slice_get (front ++ one front x ∷ [])) here
      ∙ get_last front (one front x)
      ∙ ap (λ y. Some (one front y)) same
      ∙ ap (λ args. Some (make n.named args)) (same_filter_map (slice_get front) (slice_get vs) n.arguments (all_more agree n.arguments
      below))
  unrolled_behind front (x ∷ ns) (suc j) k n at is below =
      let more = length_push front (one front x) in
      unrolled_behind (front ++ one front x ∷ []) ns j k n (omega arith) is below

  -- a value comes from those of its arguments
  pub unrolled : (ns : List Shared) (k : ℕ) (n : Shared) → slice_get ns k ≡ Some n → AllByRecursion (λ i. i < k) n.arguments
      → slice_get (values make ns) k ≡ Some (make n.named (filter_map (slice_get (values make ns)) n.arguments))
  unfolding values one
  unrolled ns k n is below = unrolled_behind [] ns k k n (omega arith) is below

-- what stands for values is made of what stands for theirs
module _ {A B : Type 0} (f : A → B) (a : ℕ → List A → A) (b : ℕ → List B → B) where
  natural_behind : (front : List A) (ns : List Shared) → AllByRecursion (λ n. (xs : List A) → f (a n.named xs) ≡ b n.named (map f xs)) ns
      → map f (values_behind a front ns) ≡ values_behind b (map f front) ns
  natural_behind front [] same = refl
  natural_behind front (n ∷ ns) same =
      let v = a n.named (filter_map (slice_get front) n.arguments) in
      let w = b n.named (filter_map (slice_get (map f front)) n.arguments) in
      let e : f v ≡ w = same.0 (filter_map (slice_get front) n.arguments) ∙ ap (b n.named) (map_got f front n.arguments) in
      natural_behind (front ++ v ∷ []) ns same.1
      ∙ ap (λ xs. values_behind b xs ns) (map-append f front (v ∷ []) ∙ ap (λ z. map f front ++ z ∷ []) e)

  pub natural : (ns : List Shared) → AllByRecursion (λ n. (xs : List A) → f (a n.named xs) ≡ b n.named (map f xs)) ns
      → map f (values a ns) ≡ values b ns
  unfolding values
  natural ns same = natural_behind [] ns same
