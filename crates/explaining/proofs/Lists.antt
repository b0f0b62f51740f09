-- Lists that are gone through: what is left of them, what is found, what is kept.
use Rattle.std.proofs.Common.{◌≡◌, ◌∙◌, ℕ, zero, suc, ◌+◌, ◌<◌, ◌≤◌, Bool, true, false, cond, List, [], ◌∷◌, ◌++◌, length, map, filter, drop, get_or, Some, None, refl, sym, ap, arith}
use Rattle.std.specs.Prelude.{◌||◌, ◌&&◌, find, if◌then◌else◌}
use Rattle.std.specs.List.{list_any, zip}
use Rattle.std.proofs.lemmas.List.{length-append}

pub any_mapped : {A B : Type 0} (p : B → Bool) (f : A → B) (xs : List A) → list_any (λ x. p (f x)) xs ≡ list_any p (map f xs)
any_mapped p f [] = refl
any_mapped p f (x ∷ xs) = ap (λ b. p (f x) || b) (any_mapped p f xs)

pub zip_mapped : {A B C D : Type 0} (f : A → C) (g : B → D) (xs : List A) (ys : List B)
    → map {B = C × D} (λ p. (f p.0, g p.1)) (zip xs ys) ≡ zip (map f xs) (map g ys)
zip_mapped f g [] ys = refl
zip_mapped f g (x ∷ xs) [] = refl
zip_mapped f g (x ∷ xs) (y ∷ ys) = ap (λ l. (f x, g y) ∷ l) (zip_mapped f g xs ys)

module _ {A B : Type 0} (f : A → B) where
  -- what is left: an item, and what is left behind it
  pub dropped : (xs : List A) (i : ℕ) (d : A) → i < length xs → map f (drop i xs) ≡ f (get_or xs i d) ∷ map f (drop (i + 1) xs)
  dropped [] i d lt = absurd (omega arith)
  dropped (x ∷ xs) zero d lt = refl
  dropped (x ∷ xs) (suc i) d lt =
      let e : suc (i + 1) ≡ suc i + 1 = omega arith in
      dropped xs i d (omega arith) ∙ ap (λ n. f (get_or xs i d) ∷ map f (drop n (x ∷ xs))) e

  pub none_left : (xs : List A) (i : ℕ) → length xs ≤ i → map f (drop i xs) ≡ []
  none_left [] zero le = refl
  none_left [] (suc i) le = refl
  none_left (x ∷ xs) zero le = absurd (omega arith)
  none_left (x ∷ xs) (suc i) le = none_left xs i (omega arith)

  -- what is looked for is found in what is left
  module _ (p : B → Bool) (xs : List A) (i : ℕ) where
    pub found_later : (d : A) → i < length xs → find p (map f (drop i xs)) ≡ find p (map f xs) → p (f (get_or xs i d)) ≡ false
        → find p (map f (drop (i + 1) xs)) ≡ find p (map f xs)
    found_later d lt kept off =
        let y = f (get_or xs i d) in
        let rest = map f (drop (i + 1) xs) in
        sym (ap (find p) (dropped xs i d lt) ∙ ap (λ b. if b then Some y else find p rest) off) ∙ kept

    pub found_here : (d : A) → i < length xs → find p (map f (drop i xs)) ≡ find p (map f xs) → p (f (get_or xs i d)) ≡ true
        → find p (map f xs) ≡ Some (f (get_or xs i d))
    found_here d lt kept on =
        let y = f (get_or xs i d) in
        let rest = map f (drop (i + 1) xs) in
        sym kept ∙ ap (find p) (dropped xs i d lt) ∙ ap (λ b. if b then Some y else find p rest) on

    pub found_nowhere : length xs ≤ i → find p (map f (drop i xs)) ≡ find p (map f xs) → find p (map f xs) ≡ None
    found_nowhere le kept = sym kept ∙ ap (find p) (none_left xs i le)

pub find_filtered : {A : Type 0} (p q : A → Bool) (xs : List A) → find p (filter q xs) ≡ find (λ x. q x && p x) xs
find_filtered p q [] = refl
find_filtered p q (x ∷ xs) =
    let rest = find_filtered p q xs in
    elim (q x) as (λ b. find p (cond b (x ∷ filter q xs) (filter q xs)) ≡ (if (b && p x) then Some x else find (λ x. q x && p x) xs)) [
      | true ↦ ap (λ o. if p x then Some x else o) rest
      | false ↦ rest
    ]

pub map_same : {A : Type 0} (xs : List A) → map (λ x. x) xs ≡ xs
map_same [] = refl
map_same (x ∷ xs) = ap (λ ys. x ∷ ys) (map_same xs)

-- the last of one item
pub last_alone : {A : Type 0} (xs front : List A) (x : A) → xs ≡ front ++ x ∷ [] → length xs ≡ 1 → xs ≡ x ∷ []
last_alone xs [] x e one = e
last_alone xs (y ∷ front) x e one =
    let long = ap length e in let more = length-append front (x ∷ []) in absurd (omega (arith, long, more, one))
