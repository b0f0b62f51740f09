-- What flags keep, one after the other.
use Rattle.std.proofs.Common.{◌≡◌, ◌∙◌, ℕ, zero, suc, ◌+◌, ◌<◌, ◌≤◌, Bool, true, false, List, [], ◌∷◌, ◌++◌, length, take, get_or, Some, None}
use Rattle.std.proofs.Common.{refl, sym, ap, arith}
use Rattle.std.specs.List.{slice_get, AllByRecursion}
use Rattle.std.proofs.lemmas.List.{take_all}
use Rattle.source.specs.Flags.{kept, kept_at}

-- one more
kept_step : {A : Type 0} (b : Bool) (x : A) (xs ys : List A) → kept_at b x (xs ++ ys) ≡ kept_at b x xs ++ ys
kept_step true x xs ys = refl
kept_step false x xs ys = refl

pub kept_more : {A : Type 0} (fs : List Bool) (xs : List A) (i : ℕ) (x : A) → i < length fs → slice_get xs i ≡ Some x
    → kept (take (suc i) fs) (take (suc i) xs) ≡ kept (take i fs) (take i xs) ++ kept_at (get_or fs i false) x []
kept_more [] xs i x h e = absurd (omega arith)
kept_more (f ∷ fs) [] i x h e = absurd cc
kept_more (f ∷ fs) (y ∷ ys) zero x h e = let same : y ≡ x = cc in ap (λ z. kept_at f z []) same
kept_more (f ∷ fs) (y ∷ ys) (suc i) x h e =
    ap (kept_at f y) (kept_more fs ys i x (omega arith) e) ∙ kept_step f y (kept (take i fs) (take i ys)) (kept_at (get_or fs i false) x [])

-- what is so of all is so of what is kept
kept_all_at : {A : Type 0} (P : A → Type 0) (b : Bool) (x : A) (xs : List A) → P x → AllByRecursion P xs → AllByRecursion P (kept_at b x xs)
kept_all_at P true x xs p ps = (p, ps)
kept_all_at P false x xs p ps = ps

pub kept_all : {A : Type 0} (P : A → Type 0) (fs : List Bool) (xs : List A) → AllByRecursion P xs → AllByRecursion P (kept fs xs)
kept_all P [] xs h = tt
kept_all P (f ∷ fs) [] h = tt
kept_all P (f ∷ fs) (x ∷ xs) h = kept_all_at P f x (kept fs xs) h.0 (kept_all P fs xs h.1)

-- one more item of two lists, kept or not
pub kept_one : {A : Type 0} (fs : List Bool) (xs : List A) (i : ℕ) (x : A) (b : Bool) → i < length fs → slice_get xs i ≡ Some x
    → get_or fs i false ≡ b → kept (take (i + 1) fs) (take (i + 1) xs) ≡ kept (take i fs) (take i xs) ++ kept_at b x []
kept_one fs xs i x b h is flag =
    let e : suc i ≡ i + 1 = omega arith in
    ap (λ n. kept (take n fs) (take n xs)) (sym e)
    ∙ kept_more fs xs i x h is
    ∙ ap (λ (t : Bool). kept (take i fs) (take i xs) ++ kept_at t x []) flag

-- and all of them
pub kept_whole : {A : Type 0} (fs : List Bool) (xs : List A) (n : ℕ) → length fs ≤ n → length fs ≡ length xs
    → kept (take n fs) (take n xs) ≡ kept fs xs
kept_whole fs xs n h same =
    let g : length xs ≤ n = omega arith in
    ap (λ gs. kept gs (take n xs)) (take_all n fs h) ∙ ap (kept fs) (take_all n xs g)
