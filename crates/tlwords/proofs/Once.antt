-- The numbers of passes: each is drawn once, and where they are as many as the clock counts, none up to it is left out.
use Rattle.std.proofs.Common.{◌≡◌, inl, inr, ⊎_elim, ℕ, zero, suc, ◌+◌, ◌-◌, ◌<◌, ◌≤◌, true, false, eqb, eq-eqb, ne_eqb, List, [], ◌∷◌}
use Rattle.std.proofs.Common.{◌++◌, length, map, flat_map, sym, refl, ap, ◌∙◌, subst, arith, ◌⊎◌}
use Rattle.std.specs.List.{IsDistinct, AllByRecursion, list_any}
use Rattle.std.proofs.lemmas.Cmp.{nat_eq_equiv}
use Rattle.std.proofs.lemmas.List.{length-append}
use Rattle.std.proofs.lemmas.Map.Keys.{IsDistinct-head, IsDistinct-tail, IsDistinct-cons, IsDistinct-push}
use Rattle.std.proofs.lemmas.Map.Steps.{length-le_from_distinct_below}
use Rattle.ranges.specs.Ranges.{Has}
use Rattle.ranges.proofs.Members.{none_absent, has_append_cases, has_mapped, cases_has, flat_has}
use Rattle.tlwords.specs.Rule.{total_of}
use Rattle.tlwords.specs.Runs.{down}

-- what stands in a list with one more stands in the list, or is it
pub has_snoc : {U : Type 0} (x : U) (xs : List U) (y : U) → Has x (xs ++ y ∷ []) → Has x xs ⊎ (x ≡ y)
has_snoc x xs y has =
    ⊎_elim (λ (p : Has x xs). inl p) (λ (p : Has x (y ∷ [])). ⊎_elim (λ (e : x ≡ y). inr e) (λ (n : ⊥). absurd n) p)
    (has_append_cases xs (y ∷ []) x has)

-- ---- numbers that differ

apart_all : (x : ℕ) (xs : List ℕ) → (Has x xs → ⊥) → AllByRecursion (λ y. eqb x y ≡ false) xs
apart_all x [] free = tt
apart_all x (y ∷ ys) free = (ne_eqb x y (λ e. free (inl e)), apart_all x ys (λ has. free (inr has)))

all_apart : (x : ℕ) (xs : List ℕ) → AllByRecursion (λ y. eqb x y ≡ false) xs → Has x xs → ⊥
all_apart x [] apart has = has
all_apart x (y ∷ ys) apart (inl e) = let a : true ≡ false = sym (eq-eqb x y e) ∙ apart.0 in cc
all_apart x (y ∷ ys) apart (inr has) = all_apart x ys apart.1 has

pub differs : (x : ℕ) (xs : List ℕ) → IsDistinct eqb (x ∷ xs) → Has x xs → ⊥
differs x xs d = all_apart x xs (IsDistinct-head eqb x xs d)

pub one_more_number : (x : ℕ) (xs : List ℕ) → (Has x xs → ⊥) → IsDistinct eqb xs → IsDistinct eqb (x ∷ xs)
one_more_number x xs free d = IsDistinct-cons eqb x xs (apart_all x xs free) d

-- a number above all of them, behind them
pub number_drawn : (xs : List ℕ) (n : ℕ) → ((i : ℕ) → Has i xs → i < n) → IsDistinct eqb xs → IsDistinct eqb (xs ++ n ∷ [])
number_drawn xs n below d = IsDistinct-push nat_eq_equiv xs n d (none_absent xs n (λ has. let l : n < n = below n has in omega (arith, l)))

pub drawn_below : (n : ℕ) (xs : List ℕ) → ((i : ℕ) → Has i xs → i ≤ n) → (i : ℕ) → Has i (0 ∷ xs) → i < suc n
drawn_below n xs most i (inl e) = omega (arith, e)
drawn_below n xs most i (inr has) = let l : i ≤ n = most i has in omega (arith, l)

nothing_distinct : IsDistinct eqb []
unfolding IsDistinct
nothing_distinct = tt

-- a pass that drew nothing
pub nothing_drawn : IsDistinct eqb (0 ∷ [])
nothing_drawn = one_more_number 0 [] (λ has. has) nothing_distinct

distinct_append : (xs ys : List ℕ) → IsDistinct eqb xs → IsDistinct eqb ys → ((n : ℕ) → Has n xs → Has n ys → ⊥) → IsDistinct eqb (xs ++ ys)
distinct_append [] ys d e apart = e
distinct_append (x ∷ xs) ys d e apart =
    one_more_number x (xs ++ ys)
    (λ has. ⊎_elim (differs x xs d) (apart x (inl refl)) (has_append_cases xs ys x has))
    (distinct_append xs ys (IsDistinct-tail eqb x xs d) e (λ n has. apart n (inr has)))

-- numbers downwards
down_most : (n k x : ℕ) → Has x (down n k) → x ≤ n
down_most n zero x has = absurd has
down_most n (suc k) x (inl e) = omega (arith, e)
down_most n (suc k) x (inr has) = let l : x ≤ n - 1 = down_most (n - 1) k x has in omega (arith, l)

pub down_distinct : (n k : ℕ) → k ≤ n → IsDistinct eqb (down n k)
down_distinct n zero l = nothing_distinct
down_distinct n (suc k) l =
    one_more_number n (down (n - 1) k) (λ has. let m : n ≤ n - 1 = down_most (n - 1) k n has in omega (arith, l, m))
    (down_distinct (n - 1) k (omega (arith, l)))

-- ---- all passes

module _ {V : Type 0} (drawn : V → List ℕ) (name : V → ℕ) (owner : ℕ → ℕ) (top : ℕ) where
  -- the numbers of a pass are from 1 up to the top, each drawn once and its own
  abbrev pub OwnsWhatItDrew : V → Type 0
  OwnsWhatItDrew v = ((n : ℕ) → Has n (drawn v) → (n ≤ top) × (owner n ≡ name v)) × IsDistinct eqb (0 ∷ drawn v)

  all_once : (vs : List V) → ((v : V) → Has v vs → OwnsWhatItDrew v) → IsDistinct eqb (map name vs) → IsDistinct eqb (flat_map drawn vs)
  all_once [] own names = names
  all_once (v ∷ vs) own names =
      distinct_append (drawn v) (flat_map drawn vs)
      (IsDistinct-tail eqb 0 (drawn v) (own v (inl refl)).1)
      (all_once vs (λ u has. own u (inr has)) (IsDistinct-tail eqb (name v) (map name vs) names))
      (λ n mine others.
      let other = flat_has drawn vs n others in
      let same : name v ≡ name other.0 = sym ((own v (inl refl)).0 n mine).1 ∙ ((own other.0 (inr other.1)).0 n other.2).1 in
      differs (name v) (map name vs) names (subst (λ x. Has x (map name vs)) (sym same) (has_mapped name vs other.0 other.1)))

  total_flat : (vs : List V) → length (flat_map drawn vs) ≡ total_of (λ v. length (drawn v)) vs
  total_flat [] = refl
  total_flat (v ∷ vs) = length-append (drawn v) (flat_map drawn vs) ∙ ap (λ n. length (drawn v) + n) (total_flat vs)

  pub none_left_out : (vs : List V) → ((v : V) → Has v vs → OwnsWhatItDrew v) → IsDistinct eqb (map name vs)
      → total_of (λ v. length (drawn v)) vs ≡ top → (n : ℕ) → 1 ≤ n → n ≤ top → (v : V) × Has v vs × Has n (drawn v)
  none_left_out vs own names all n some within =
      ⊎_elim (flat_has drawn vs n) (λ free. absurd (no_room free)) (cases_has (flat_map drawn vs) n)
    where
      unset : Has 0 (flat_map drawn vs) → ⊥
      unset has = let v = flat_has drawn vs 0 has in differs 0 (drawn v.0) (own v.0 v.1).1 v.2

      no_room : (Has n (flat_map drawn vs) → ⊥) → ⊥
      no_room free =
          let more : List ℕ = 0 ∷ n ∷ flat_map drawn vs in
          let d : IsDistinct eqb more =
          one_more_number 0 (n ∷ flat_map drawn vs) (λ has. ⊎_elim (λ (e : 0 ≡ n). omega (arith, e, some)) unset has)
          (one_more_number n (flat_map drawn vs) free (all_once vs own names)) in
          let few : length more ≤ suc top = length-le_from_distinct_below more (suc top) d (λ q found. below q (any_given q more found)) in
          let size : length (flat_map drawn vs) ≡ top = total_flat vs ∙ all in
          omega (arith, few, size)
        where
          any_given : (q : ℕ) (xs : List ℕ) → list_any (eqb q) xs ≡ true → Has q xs
          any_given q xs found = ⊎_elim (λ has. has) (λ none. let a : true ≡ false = sym found ∙ none_absent xs q none in cc)
              (cases_has xs q)

          below : (q : ℕ) → Has q (0 ∷ n ∷ flat_map drawn vs) → q < suc top
          below q (inl e) = omega (arith, e)
          below q (inr (inl e)) = omega (arith, e, within)
          below q (inr (inr has)) =
              let v = flat_has drawn vs q has in
              let l : q ≤ top = ((own v.0 v.1).0 q v.2).0 in
              omega (arith, l)
