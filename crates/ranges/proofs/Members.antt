-- What stands in a list: in both ways of saying it, and in appended, mapped, filtered and permuted lists.
use Rattle.std.proofs.Common.{◌≡◌, ◌≢◌, ℕ, zero, suc, ◌<◌, ◌≤◌, Bool, true, false, cond, List, [], ◌∷◌, ◌++◌, length, map, flat_map, refl, sym, ap, subst, ◌∙◌}
use Rattle.std.proofs.Common.{◌⊎◌, inl, inr, ⊎_elim, arith, nat_eq}
use Rattle.std.specs.Prelude.{filter, All, IsPermutation}
use Rattle.std.specs.List.{Contains, list_any}
use Rattle.std.proofs.lemmas.Bool.{cases_Bool, cases_eq, cond-true, cond-false, eq-eqb, ne_eqb, both_ways, or_left, or_right, or_from}
use Rattle.std.proofs.lemmas.List.Elements.{All-head, All-tail, Contains-append_right}
use Rattle.std.proofs.lemmas.List.Sorted.{Contains-permutation}
use Rattle.ranges.specs.Ranges.{Has}

module _ {A : Type 0} where
  pub contains_from_has : (xs : List A) (x : A) → Has x xs → Contains xs x
  contains_from_has [] x h = absurd h
  contains_from_has (y ∷ ys) x (inl e) = (0, omega arith, sym e)
  contains_from_has (y ∷ ys) x (inr h) = Contains-append_right (y ∷ []) ys x (contains_from_has ys x h)

  has_at : (xs : List A) (k : ℕ) (x : A) → k < length xs → Has (Rattle.std.specs.List.slice_index_or xs k x) xs
  has_at [] k x lt = omega (arith, lt)
  has_at (y ∷ ys) zero x lt = inl refl
  has_at (y ∷ ys) (suc k) x lt = inr (has_at ys k x (omega (arith, lt)))

  pub has_from_contains : (xs : List A) (x : A) → Contains xs x → Has x xs
  has_from_contains xs x h = subst (λ y. Has y xs) h.2 (has_at xs h.0 x h.1)

  pub all_has : (P : A → Type 0) (xs : List A) (x : A) → All P xs → Has x xs → P x
  all_has P [] x all h = absurd h
  all_has P (y ∷ ys) x all (inl e) = subst P (sym e) (All-head P y ys all)
  all_has P (y ∷ ys) x all (inr h) = all_has P ys x (All-tail P y ys all) h

  pub all_from_has : (P : A → Type 0) (xs : List A) → ((x : A) → Has x xs → P x) → All P xs
  all_from_has P xs each k d lt = each _ (has_at xs k d lt)

  pub any_has : (p : A → Bool) (xs : List A) (x : A) → Has x xs → p x ≡ true → list_any p xs ≡ true
  any_has p [] x h e = absurd h
  any_has p (y ∷ ys) x (inl is) e = or_left (p y) (list_any p ys) (sym (ap p is) ∙ e)
  any_has p (y ∷ ys) x (inr h) e = or_right (p y) (list_any p ys) (any_has p ys x h e)

  pub has_append_left : (xs ys : List A) (x : A) → Has x xs → Has x (xs ++ ys)
  has_append_left [] ys x h = absurd h
  has_append_left (y ∷ xs) ys x (inl e) = inl e
  has_append_left (y ∷ xs) ys x (inr h) = inr (has_append_left xs ys x h)

  pub has_append_right : (xs ys : List A) (x : A) → Has x ys → Has x (xs ++ ys)
  has_append_right [] ys x h = h
  has_append_right (y ∷ xs) ys x h = inr (has_append_right xs ys x h)

  pub has_append_cases : (xs ys : List A) (x : A) → Has x (xs ++ ys) → Has x xs ⊎ Has x ys
  has_append_cases [] ys x h = inr h
  has_append_cases (y ∷ xs) ys x (inl e) = inl (inl e)
  has_append_cases (y ∷ xs) ys x (inr h) = ⊎_elim (λ l. inl (inr l)) (λ r. inr r) (has_append_cases xs ys x h)

  pub has_permutation : (xs ys : List A) (x : A) → IsPermutation xs ys → Has x xs → Has x ys
  has_permutation xs ys x p h = has_from_contains ys x (Contains-permutation xs ys x p (contains_from_has xs x h))

  pub has_filtered : (p : A → Bool) (xs : List A) (x : A) → Has x xs → p x ≡ true → Has x (filter p xs)
  has_filtered p [] x h e = absurd h
  has_filtered p (y ∷ ys) x (inl is) e = subst (Has x) (sym (cond-true (p y) (y ∷ filter p ys) (filter p ys) (sym (ap p is) ∙ e))) (inl is)
  has_filtered p (y ∷ ys) x (inr h) e =
      elim (p y) as (λ b. Has x (cond b (y ∷ filter p ys) (filter p ys))) [
        | true ↦ inr (has_filtered p ys x h e)
        | false ↦ has_filtered p ys x h e
      ]

  -- what is filtered was there, and passes
  pub filtered_has : (p : A → Bool) (xs : List A) (x : A) → Has x (filter p xs) → Has x xs × (p x ≡ true)
  filtered_has p [] x h = absurd h
  filtered_has p (y ∷ ys) x h =
      elim (cases_Bool (p y)) [
        | inl so ↦ ⊎_elim (λ is. (inl is, ap p is ∙ so)) (λ later. let r = filtered_has p ys x later in (inr r.0, r.1))
            (subst (Has x) (cond-true (p y) (y ∷ filter p ys) (filter p ys) so) h)
        | inr other ↦ let r = filtered_has p ys x (subst (Has x) (cond-false (p y) (y ∷ filter p ys) (filter p ys) other) h) in
            (inr r.0, r.1)
      ]

module _ {A B : Type 0} (f : A → B) where
  pub has_mapped : (xs : List A) (x : A) → Has x xs → Has (f x) (map f xs)
  has_mapped [] x h = absurd h
  has_mapped (y ∷ xs) x (inl is) = inl (ap f is)
  has_mapped (y ∷ xs) x (inr h) = inr (has_mapped xs x h)

  -- what is mapped is the image of one that is there
  pub mapped_has : (xs : List A) (y : B) → Has y (map f xs) → (x : A) × Has x xs × (y ≡ f x)
  mapped_has [] y h = absurd h
  mapped_has (x ∷ xs) y (inl is) = (x, inl refl, is)
  mapped_has (x ∷ xs) y (inr h) = let r = mapped_has xs y h in (r.0, inr r.1, r.2)

module _ {A B : Type 0} (f : A → List B) where
  pub has_flat : (xs : List A) (x : A) (y : B) → Has x xs → Has y (f x) → Has y (flat_map f xs)
  has_flat [] x y has own = absurd has
  has_flat (z ∷ zs) x y (inl same) own = has_append_left (f z) (flat_map f zs) y (subst (λ z. Has y (f z)) same own)
  has_flat (z ∷ zs) x y (inr has) own = has_append_right (f z) (flat_map f zs) y (has_flat zs x y has own)

  -- what stands in a list of them stands in one of them
  pub flat_has : (xs : List A) (y : B) → Has y (flat_map f xs) → (x : A) × Has x xs × Has y (f x)
  flat_has [] y has = absurd has
  flat_has (z ∷ zs) y has = ⊎_elim (λ own. (z, inl refl, own))
      (λ other. let r = flat_has zs y other in (r.0, inr r.1, r.2))
      (has_append_cases (f z) (flat_map f zs) y has)

-- ---- numbers

-- what no test finds is not there
pub absent : (xs : List ℕ) (x : ℕ) → list_any (nat_eq x) xs ≡ false → Has x xs → ⊥
absent xs x none h = both_ways (list_any (nat_eq x) xs) none (any_has (nat_eq x) xs x h (eq-eqb x x refl))

pub none_absent : (xs : List ℕ) (x : ℕ) → (Has x xs → ⊥) → list_any (nat_eq x) xs ≡ false
none_absent [] x free = refl
none_absent (y ∷ ys) x free = or_from (nat_eq x y) (list_any (nat_eq x) ys) (ne_eqb x y (λ e. free (inl e)))
    (none_absent ys x (λ h. free (inr h)))

pub cases_has : (xs : List ℕ) (x : ℕ) → Has x xs ⊎ (Has x xs → ⊥)
cases_has [] x = inr (λ h. h)
cases_has (y ∷ ys) x =
    elim (cases_eq x y) [
      | inl e ↦ inl (inl e)
      | inr ne ↦ ⊎_elim (λ h. inl (inr h)) (λ free. inr (λ h. ⊎_elim ne free h)) (cases_has ys x)
    ]

-- a list without one that stands in it: one shorter, with the others
taken_out : (x : ℕ) (xs : List ℕ) → Has x xs → (ys : List ℕ) × (length xs ≡ suc (length ys)) × ((i : ℕ) → Has i xs → i ≢ x → Has i ys)
taken_out x [] h = absurd h
taken_out x (y ∷ ys) (inl e) = (ys, omega arith, λ i h ne. elim h [ inl d ↦ absurd (ne (d ∙ sym e)) | inr k ↦ k ])
taken_out x (y ∷ ys) (inr h) =
    let t = taken_out x ys h in
    (y ∷ t.0, omega (arith, t.1), λ i k ne. elim k [ inl d ↦ inl d | inr l ↦ inr (t.2 i l ne) ])

-- a list in which each number below n stands has at least n elements
pub all_below : (n : ℕ) (xs : List ℕ) → ((i : ℕ) → i < n → Has i xs) → n ≤ length xs
all_below zero xs h = omega arith
all_below (suc n) xs h =
    let t = taken_out n xs (h n (omega arith)) in
    let shorter = all_below n t.0 (λ i lt. t.2 i (h i (omega arith)) (λ e. omega (arith, e, lt))) in
    omega (arith, t.1, shorter)
