-- What is known of a place that is noted for a word.
use Rattle.std.proofs.Common.{◌≡◌, ◌⊎◌, inl, inr, ℕ, zero, suc, Bool, true, false, cond, List, [], ◌∷◌, ◌++◌, length, take, ◌<◌, arith}
use Rattle.std.proofs.Common.{Option, Some, None, refl, sym, ap, ◌∙◌}
use Rattle.std.specs.Prelude.{◌||◌, is_some}
use Rattle.std.specs.List.{list_any, slice_get, find}
use Rattle.std.specs.Option.{option_map_or, option_and_then}
use Rattle.std.proofs.lemmas.Bool.{cases_Bool, or_parts}
use Rattle.scopes.specs.Found.{Found, passes_at, passing, passing_at}

-- ---- items at places

pub get-push : {A : Type 0} (xs : List A) (y : A) (i : ℕ) (x : A) → slice_get (xs ++ y ∷ []) i ≡ Some x
    → (slice_get xs i ≡ Some x) ⊎ ((i ≡ length xs) × (x ≡ y))
get-push [] y zero x h = inr (refl, cc)
get-push [] y (suc i) x h = absurd cc
get-push (z ∷ zs) y zero x h = inl h
get-push (z ∷ zs) y (suc i) x h = elim (get-push zs y i x h) [ inl e ↦ inl e | inr p ↦ inr (ap (λ n. suc n) p.0, p.1) ]

pub get-take : {A : Type 0} (xs : List A) (m i : ℕ) (x : A) → slice_get (take m xs) i ≡ Some x → slice_get xs i ≡ Some x
get-take xs zero i x h = absurd cc
get-take [] (suc m) i x h = absurd cc
get-take (z ∷ zs) (suc m) zero x h = h
get-take (z ∷ zs) (suc m) (suc i) x h = get-take zs m i x h

pub none_passes : {A : Type 0} (test : A → Bool) (xs : List A) (i : ℕ) (x : A) → list_any test xs ≡ false → slice_get xs i ≡ Some x
    → test x ≡ false
none_passes test [] i x h at = absurd cc
none_passes test (z ∷ zs) zero x h at =
    let e : z ≡ x = cc in
    ap test (sym e) ∙ (or_parts (test z) (list_any test zs) h).0
none_passes test (z ∷ zs) (suc i) x h at = none_passes test zs i x (or_parts (test z) (list_any test zs) h).1 at

pub some_passes : {A : Type 0} (test : A → Bool) (xs : List A) → list_any test xs ≡ true
    → (i : ℕ) × (x : A) × (slice_get xs i ≡ Some x) × (test x ≡ true)
some_passes test [] h = absurd cc
some_passes {A} test (z ∷ zs) h =
    elim (cases_Bool (test z)) [
      | inl y ↦ (0, z, refl, y)
      | inr n ↦
          let later : list_any test zs ≡ true = ap (λ b. b || list_any test zs) (sym n) ∙ h in
          let r = some_passes test zs later in
          (suc r.0, r.1, r.2, r.3)
    ]

-- ---- noted places

pub found_push : {A : Type 0} (test : A → Bool) (xs : List A) (x : A) (o : Option ℕ) → test x ≡ false → Found test xs o
    → Found test (xs ++ x ∷ []) o
found_push test xs x o fails h = λ i y at passes. elim (get-push xs x i y at) [
  | inl e ↦ h i y e passes
  | inr p ↦ let e : test y ≡ test x = ap test p.1 in absurd cc
]

pub found_here : {A : Type 0} (test : A → Bool) (xs : List A) (x : A) → list_any test xs ≡ false
    → Found test (xs ++ x ∷ []) (Some (length xs))
found_here test xs x none = λ i y at passes. elim (get-push xs x i y at) [
  | inl e ↦ let no : test y ≡ false = none_passes test xs i y none e in absurd cc
  | inr p ↦ ap (λ n. Some n) (sym p.0)
]

pub found_none : {A : Type 0} (test : A → Bool) (xs : List A) (o : Option ℕ) → list_any test xs ≡ false → Found test xs o
found_none test xs o none = λ i y at passes. let no : test y ≡ false = none_passes test xs i y none at in absurd cc

pub found_take : {A : Type 0} (test : A → Bool) (xs : List A) (m : ℕ) (o : Option ℕ) → Found test xs o → Found test (take m xs) o
found_take test xs m o h = λ i y at passes. h i y (get-take xs m i y at) passes

none_at : {A : Type 0} (test : A → Bool) (o : Option A) → ((x : A) → o ≡ Some x → test x ≡ false) → option_map_or test o false ≡ false
none_at test None h = refl
none_at test (Some x) h = h x refl

any_at : {A : Type 0} (test : A → Bool) (xs : List A) (i : ℕ) (x : A) → slice_get xs i ≡ Some x → test x ≡ true
    → passes_at test xs (Some i) ≡ true
any_at test xs i x at passes = ap (λ o. option_map_or test o false) at ∙ passes

none_noted : {A : Type 0} (test : A → Bool) (xs : List A) (o : Option ℕ) → list_any test xs ≡ false → passes_at test xs o ≡ false
none_noted test xs None none = refl
none_noted test xs (Some i) none = none_at test (slice_get xs i) (λ x at. none_passes test xs i x none at)

-- whether an item passes is seen at the noted place
pub found_any : {A : Type 0} (test : A → Bool) (xs : List A) (o : Option ℕ) → Found test xs o → list_any test xs ≡ passes_at test xs o
found_any test xs o h =
    elim (cases_Bool (list_any test xs)) [
      | inl y ↦
          let r = some_passes test xs y in
          y ∙ sym (ap (passes_at test xs) (h r.0 r.1 r.2 r.3) ∙ any_at test xs r.0 r.1 r.2 r.3)
      | inr n ↦ n ∙ sym (none_noted test xs o n)
    ]

-- the noted place where an item passes there
pub some_there : {A : Type 0} (test : A → Bool) (xs : List A) (o : Option ℕ)
    → is_some (cond (passes_at test xs o) o None) ≡ passes_at test xs o
some_there test xs None = refl
some_there test xs (Some i) =
    elim (passes_at test xs (Some i)) as (λ b. is_some (cond b (Some i) None) ≡ b) [
      | true ↦ refl
      | false ↦ refl
    ]

pub found_there : {A : Type 0} (test : A → Bool) (xs : List A) (o : Option ℕ) → Found test xs o
    → Found test xs (cond (passes_at test xs o) o None)
found_there test xs o h = λ i y at passes.
    let noted : o ≡ Some i = h i y at passes in
    ap (λ b. cond b o None) (ap (passes_at test xs) noted ∙ any_at test xs i y at passes) ∙ noted

-- where an item passes there is one
pub there_within : {A : Type 0} (test : A → Bool) (xs : List A) (i : ℕ) → passes_at test xs (Some i) ≡ true → i < length xs
there_within test [] i h = absurd cc
there_within test (x ∷ xs) zero h = omega arith
there_within test (x ∷ xs) (suc i) h = let later : i < length xs = there_within test xs i h in omega arith

pub finds_none : {A : Type 0} (test : A → Bool) (xs : List A) → list_any test xs ≡ false → find test xs ≡ None
finds_none test [] none = refl
finds_none test (z ∷ zs) none =
    let parts = or_parts (test z) (list_any test zs) none in
    ap (λ b. cond b (Some z) (find test zs)) parts.0 ∙ finds_none test zs parts.1

-- the first item that passes
first_passes : {A : Type 0} (test : A → Bool) (xs : List A) → list_any test xs ≡ true
    → (i : ℕ) × (x : A) × (slice_get xs i ≡ Some x) × (test x ≡ true) × (find test xs ≡ Some x)
first_passes test [] h = absurd cc
first_passes {A} test (z ∷ zs) h =
    elim (cases_Bool (test z)) [
      | inl y ↦ (0, z, refl, y, ap (λ b. cond b (Some z) (find test zs)) y)
      | inr n ↦
          let later : list_any test zs ≡ true = ap (λ b. b || list_any test zs) (sym n) ∙ h in
          let r = first_passes test zs later in
          (suc r.0, r.1, r.2, r.3, ap (λ b. cond b (Some z) (find test zs)) n ∙ r.4)
    ]

item_at : {A : Type 0} (test : A → Bool) (xs : List A) (i : ℕ) (x : A) → slice_get xs i ≡ Some x → test x ≡ true
    → passing_at test xs (Some i) ≡ Some x
item_at test xs i x at passes = ap (λ o. option_and_then (passing test) o) at ∙ ap (λ b. cond b (Some x) None) passes

none_passing : {A : Type 0} (test : A → Bool) (o : Option A) → ((x : A) → o ≡ Some x → test x ≡ false)
    → option_and_then (passing test) o ≡ None
none_passing test None h = refl
none_passing test (Some x) h = ap (λ b. cond b (Some x) None) (h x refl)

none_there : {A : Type 0} (test : A → Bool) (xs : List A) (o : Option ℕ) → list_any test xs ≡ false → passing_at test xs o ≡ None
none_there test xs None none = refl
none_there test xs (Some i) none = none_passing test (slice_get xs i) (λ x at. none_passes test xs i x none at)

-- the first item that passes is found at the noted place
pub found_find : {A : Type 0} (test : A → Bool) (xs : List A) (o : Option ℕ) → Found test xs o → find test xs ≡ passing_at test xs o
found_find test xs o h =
    elim (cases_Bool (list_any test xs)) [
      | inl y ↦
          let r = first_passes test xs y in
          r.4 ∙ sym (ap (passing_at test xs) (h r.0 r.1 r.2 r.3) ∙ item_at test xs r.0 r.1 r.2 r.3)
      | inr n ↦ finds_none test xs n ∙ sym (none_there test xs o n)
    ]
