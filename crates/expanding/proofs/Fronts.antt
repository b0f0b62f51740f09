-- How many of each front of flags are taken.
use Rattle.std.proofs.Common.{◌≡◌, ◌∙◌, ℕ, zero, suc, ◌+◌, ◌<◌, ◌≤◌, Bool, true, false, cond, List, [], ◌∷◌, ◌++◌, length, take, drop, get_or}
use Rattle.std.proofs.Common.{Some, refl, sym, ap, arith, inl, inr, length-append, length-take}
use Rattle.std.specs.Prelude.{filter, slice_get, ◌⊎◌}
use Rattle.std.specs.Int.{from_bool}
use Rattle.std.proofs.Math.Nat.{eq-or-lt_of_le}
use Rattle.std.proofs.lemmas.List.{take-append-drop, take_all, length_push}
use Rattle.std.proofs.lemmas.List.Elements.{filter-append}
use Rattle.std.proofs.lemmas.List.Sums.{length-filter, count_by-le-length}
use Rattle.std.proofs.lemmas.List.Filters.{length-filter_more}
use Rattle.std.specs.List.{count_by}
use Rattle.expanding.specs.Ranking.{taken_among}
use Rattle.expanding.specs.Views.{AreFronts}

pub taken_within : (flags : List Bool) (n : ℕ) → taken_among flags n ≤ n
taken_within flags n =
    let few = count_by-le-length (λ (f : Bool). f) (take n flags) in
    let counted = length-filter (λ (f : Bool). f) (take n flags) in
    let long = length-take n flags in
    omega arith

pub taken_more : (flags : List Bool) (k : ℕ) (d : Bool) → k < length flags
    → taken_among flags (k + 1) ≡ taken_among flags k + cond (get_or flags k d) 1 0
taken_more flags k d lt = length-filter_more (λ (f : Bool). f) flags k d lt

pub from_most : (b : Bool) → from_bool b ≤ 1
from_most true = omega arith
from_most false = omega arith

from_is : (b : Bool) → from_bool b ≡ cond b 1 0
from_is true = refl
from_is false = refl

-- one more flag
pub taken_next : (flags : List Bool) (k : ℕ) (d : Bool) → k < length flags → (count one : ℕ) → count ≡ taken_among flags k
    → one ≡ from_bool (get_or flags k d) → count + one ≡ taken_among flags (k + 1)
taken_next flags k d lt count one is from =
    let more = taken_more flags k d lt in
    let step = from ∙ from_is (get_or flags k d) in
    omega arith

-- a longer front has no fewer
pub taken_most : (flags : List Bool) (n : ℕ) → taken_among flags n ≤ taken_among flags (length flags)
taken_most flags n =
    let split = ap length (ap (filter (λ f. f)) (sym (take-append-drop n flags))) in
    let both = ap length (filter-append (λ (f : Bool). f) (take n flags) (drop n flags)) in
    let parts = length-append (filter (λ (f : Bool). f) (take n flags)) (filter (λ (f : Bool). f) (drop n flags)) in
    let all = ap (λ fs. length (filter (λ (f : Bool). f) fs)) (take_all (length flags) flags (omega arith)) in
    omega arith

-- ---- the fronts up to a place

pub record AreFrontsTo (flags : List Bool) (k : ℕ) (fronts : List ℕ) : Type 0 where
  pub many : length fronts ≡ suc k
  pub each : (n : ℕ) → n ≤ k → slice_get fronts n ≡ Some (taken_among flags n)

get_left : (xs ys : List ℕ) (n v : ℕ) → slice_get xs n ≡ Some v → slice_get (xs ++ ys) n ≡ Some v
get_left [] ys n v e = absurd cc
get_left (x ∷ xs) ys zero v e = e
get_left (x ∷ xs) ys (suc n) v e = get_left xs ys n v e

get_last : (xs : List ℕ) (y : ℕ) → slice_get (xs ++ y ∷ []) (length xs) ≡ Some y
get_last [] y = refl
get_last (x ∷ xs) y = get_last xs y

pub fronts_none : (flags : List Bool) (fronts : List ℕ) → fronts ≡ 0 ∷ [] → AreFrontsTo flags 0 fronts
fronts_none flags fronts is = record {
  many = ap length is;
  each = λ n le.
      let e : n ≡ 0 = omega arith in
      ap (slice_get fronts) e ∙ (ap (λ xs. slice_get xs 0) is ∙ ap (λ k. Some (taken_among flags k)) (sym e));
}

pub fronts_more : (flags : List Bool) (k : ℕ) (fronts : List ℕ) → AreFrontsTo flags k fronts → (v : ℕ) → v ≡ taken_among flags (k + 1)
    → AreFrontsTo flags (k + 1) (fronts ++ v ∷ [])
fronts_more flags k fronts h v is = record {
  many = length_push fronts v ∙ (let e = h.many in omega arith);
  each = λ n le. at n (eq-or-lt_of_le le);
}
  where
    at : (n : ℕ) → (n ≡ k + 1) ⊎ (n < k + 1) → slice_get (fronts ++ v ∷ []) n ≡ Some (taken_among flags n)
    at n (inr few) = get_left fronts (v ∷ []) n (taken_among flags n) (h.each n (omega arith))
    at n (inl e) =
        ap (slice_get (fronts ++ v ∷ [])) (e ∙ (let m = h.many in omega arith))
        ∙ (get_last fronts v ∙ (ap (λ w. Some w) is ∙ ap (λ j. Some (taken_among flags j)) (sym e)))

pub fronts_all : (flags : List Bool) (k : ℕ) (fronts : List ℕ) → k ≡ length flags → AreFrontsTo flags k fronts → AreFronts flags fronts
fronts_all flags k fronts is h = record {
  many = h.many ∙ ap (λ n. suc n) is;
  each = λ n le. h.each n (omega arith);
}

-- all that are taken
pub taken_all : (flags : List Bool) → count_by (λ f. f) flags ≡ taken_among flags (length flags)
taken_all flags =
    sym (length-filter (λ f. f) flags) ∙ ap (λ fs. length (filter (λ (f : Bool). f) fs)) (sym (take_all (length flags) flags (omega arith)))
