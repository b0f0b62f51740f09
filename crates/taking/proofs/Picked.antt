-- Arguments in the profile's order.
use Rattle.std.proofs.Common.{◌≡◌, ◌<◌, ◌≤◌, ℕ, suc, zero, ◌+◌, Bool, true, false, List, [], ◌∷◌, ◌++◌, length, map, take, get_or}
use Rattle.std.proofs.Common.{refl, sym, ap, ◌∙◌, arith}
use Rattle.std.specs.Prelude.{min}
use mathlib.Core.Bool.{beq}
use Rattle.std.specs.List.{AllByRecursion}
use Rattle.std.proofs.lemmas.List.{map-append}
use Rattle.source.specs.Proofs.{total}
use Rattle.taking.specs.Walks.{is_wanted, in_front, picked, arranged}

-- ---- one item in front, or not

front_append : {A : Type 0} (b : Bool) (x : A) (xs ys : List A) → in_front b x (xs ++ ys) ≡ in_front b x xs ++ ys
front_append true x xs ys = refl
front_append false x xs ys = refl

front_map : {A B : Type 0} (f : A → B) (b : Bool) (x : A) (xs : List A) → in_front b (f x) (map f xs) ≡ map f (in_front b x xs)
front_map f true x xs = refl
front_map f false x xs = refl

front_holds : {A : Type 0} (P : A → Type 0) (b : Bool) (x : A) (xs : List A) → P x → AllByRecursion P xs → AllByRecursion P (in_front b
    x xs)
front_holds P true x xs h a = (h, a)
front_holds P false x xs h a = a

-- ---- picked

-- one more flag and item
pub picked_more : {A : Type 0} (b : Bool) (fs : List Bool) (xs : List A) (n : ℕ) (f : Bool) (x : A) → n < length fs → n < length xs
    → picked b (take (suc n) fs) (take (suc n) xs)
    ≡ picked b (take n fs) (take n xs) ++ in_front (is_wanted b (get_or fs n f)) (get_or xs n x) []
picked_more b [] xs n f x h g = absurd (omega arith)
picked_more b (e ∷ fs) [] n f x h g = absurd (omega arith)
picked_more b (e ∷ fs) (y ∷ xs) zero f x h g = refl
picked_more b (e ∷ fs) (y ∷ xs) (suc n) f x h g =
    ap (in_front (is_wanted b e) y) (picked_more b fs xs n f x (omega arith) (omega arith))
    ∙ front_append (is_wanted b e) y (picked b (take n fs) (take n xs)) (in_front (is_wanted b (get_or fs n f)) (get_or xs n x) [])

-- whether a flag is as wanted
wanted_is : (b f : Bool) → is_wanted b f ≡ beq f b
wanted_is true true = refl
wanted_is true false = refl
wanted_is false true = refl
wanted_is false false = refl

-- the same, where the flag and the item are known
pub picked_on : {A : Type 0} (b : Bool) (fs : List Bool) (xs : List A) (n m : ℕ) (f : Bool) (x : A) (w : Bool) → m ≡ n + 1
    → n < length xs → n < length fs → x ≡ get_or xs n x → f ≡ get_or fs n f → beq f b ≡ w
    → picked b (take m fs) (take m xs) ≡ picked b (take n fs) (take n xs) ++ in_front w x []
picked_on b fs xs n m f x w m-is g h x-is f-is w-is =
    let e : m ≡ suc n = omega arith in
    ap (λ i. picked b (take i fs) (take i xs)) e
    ∙ picked_more b fs xs n f x h g
    ∙ ap (λ y. picked b (take n fs) (take n xs) ++ in_front (is_wanted b (get_or fs n f)) y []) (sym x-is)
    ∙ ap (λ e. picked b (take n fs) (take n xs) ++ in_front (is_wanted b e) x []) (sym f-is)
    ∙ ap (λ v. picked b (take n fs) (take n xs) ++ in_front v x []) (wanted_is b f ∙ w-is)

-- what is behind the shorter is not read
pub picked_all : {A : Type 0} (b : Bool) (fs : List Bool) (xs : List A) (n : ℕ) → n ≡ min (length xs) (length fs)
    → picked b (take n fs) (take n xs) ≡ picked b fs xs
picked_all b [] xs zero h = refl
picked_all b [] xs (suc n) h = absurd (omega arith)
picked_all b (f ∷ fs) [] zero h = refl
picked_all b (f ∷ fs) [] (suc n) h = absurd (omega arith)
picked_all b (f ∷ fs) (x ∷ xs) zero h = absurd (omega arith)
picked_all b (f ∷ fs) (x ∷ xs) (suc n) h = ap (in_front (is_wanted b f) x) (picked_all b fs xs n (omega arith))

-- what holds of all holds of what is picked
pub picked_hold : {A : Type 0} (P : A → Type 0) (b : Bool) (fs : List Bool) (xs : List A) → AllByRecursion P xs → AllByRecursion P
    (picked b fs xs)
picked_hold P b [] xs a = tt
picked_hold P b (f ∷ fs) [] a = tt
picked_hold P b (f ∷ fs) (x ∷ xs) a = front_holds P (is_wanted b f) x (picked b fs xs) a.0 (picked_hold P b fs xs a.1)

-- what is picked of what stands for items
picked_map : {A B : Type 0} (f : A → B) (b : Bool) (fs : List Bool) (xs : List A) → picked b fs (map f xs) ≡ map f (picked b fs xs)
picked_map f b [] xs = refl
picked_map f b (g ∷ fs) [] = refl
picked_map f b (g ∷ fs) (x ∷ xs) =
    ap (in_front (is_wanted b g) (f x)) (picked_map f b fs xs) ∙ front_map f (is_wanted b g) x (picked b fs xs)

pub arranged_map : {A B : Type 0} (f : A → B) (fs : List Bool) (xs : List A) → arranged fs (map f xs) ≡ map f (arranged fs xs)
arranged_map f fs xs =
    ap (λ ys. ys ++ picked false fs (map f xs)) (picked_map f true fs xs)
    ∙ ap (λ ys. map f (picked true fs xs) ++ ys) (picked_map f false fs xs)
    ∙ sym (map-append f (picked true fs xs) (picked false fs xs))

-- ---- numbers

pub total_append : (xs ys : List ℕ) → total (xs ++ ys) ≡ total xs + total ys
total_append [] ys = omega arith
total_append (x ∷ xs) ys = let e = total_append xs ys in omega arith

-- what is picked weighs no more than all
picked_weigh : (fs : List Bool) (xs : List ℕ) → total (picked true fs xs) + total (picked false fs xs) ≤ total xs
picked_weigh [] xs = omega arith
picked_weigh (f ∷ fs) [] = omega arith
picked_weigh (true ∷ fs) (x ∷ xs) = let e = picked_weigh fs xs in omega arith
picked_weigh (false ∷ fs) (x ∷ xs) = let e = picked_weigh fs xs in omega arith

pub arranged_weigh : (fs : List Bool) (xs : List ℕ) → total (arranged fs xs) ≤ total xs
arranged_weigh fs xs = let e = total_append (picked true fs xs) (picked false fs xs) in let w = picked_weigh fs xs in omega arith
