-- Values that are all there.
use Rattle.std.proofs.Common.{◌≡◌, ◌<◌, ℕ, Bool, true, false, List, [], ◌∷◌, ◌++◌, length, map, get_or, refl, sym, ap, ◌∙◌, arith}
use Rattle.std.specs.Prelude.{Option, Some, None, slice_get, filter_map}
use Rattle.std.specs.Option.{option_map}
use Rattle.std.specs.List.{AllByRecursion, cons_option}
use Rattle.std.proofs.lemmas.Option.{slice_get-get_or}
use Rattle.taking.specs.Says.{both}
use Rattle.taking.specs.Walks.{is_wanted, in_front, picked, arranged}

abbrev pub gathered : {A : Type 0} → List (Option A) → Option (List A)
gathered [] = Some []
gathered (x ∷ xs) = both x (gathered xs)

-- two parts
abbrev pub with_rest : {A : Type 0} → Option (List A) → Option (List A) → Option (List A)
with_rest None ys = None
with_rest (Some xs) None = None
with_rest (Some xs) (Some ys) = Some (xs ++ ys)

nothing_before : {A : Type 0} (b : Option (List A)) → b ≡ with_rest (Some []) b
nothing_before None = refl
nothing_before (Some ys) = refl

none_behind : {A : Type 0} (a : Option (List A)) → with_rest a None ≡ None
none_behind None = refl
none_behind (Some xs) = refl

both_before : {A : Type 0} (o : Option A) (a b : Option (List A)) → both o (with_rest a b) ≡ with_rest (both o a) b
both_before None a b = refl
both_before (Some x) None b = refl
both_before (Some x) (Some xs) None = refl
both_before (Some x) (Some xs) (Some ys) = refl

pub gathered_append : {A : Type 0} (xs ys : List (Option A)) → gathered (xs ++ ys) ≡ with_rest (gathered xs) (gathered ys)
gathered_append [] ys = nothing_before (gathered ys)
gathered_append (x ∷ xs) ys = ap (both x) (gathered_append xs ys) ∙ both_before x (gathered xs) (gathered ys)

-- ---- in the profile's order

front_there : {A : Type 0} (w : Bool) (x : A) (os : List (Option A)) (ys : List A) → gathered os ≡ Some ys
    → gathered (in_front w (Some x) os) ≡ Some (in_front w x ys)
front_there true x os ys h = ap (both (Some x)) h
front_there false x os ys h = h

parts : {A : Type 0} (x : A) (r : Option (List A)) (xs : List A) → both (Some x) r ≡ Some xs → (ys : List A) × (r ≡ Some ys) × (x ∷ ys ≡ xs)
parts x None xs h = absurd cc
parts x (Some ys) xs h = (ys, refl, cc)

picked_there : {A : Type 0} (b : Bool) (fs : List Bool) (os : List (Option A)) (xs : List A) → gathered os ≡ Some xs
    → gathered (picked b fs os) ≡ Some (picked b fs xs)
picked_there b [] os xs h = refl
picked_there b (f ∷ fs) [] [] h = refl
picked_there b (f ∷ fs) [] (x ∷ xs) h = absurd cc
picked_there b (f ∷ fs) (None ∷ os) xs h = absurd cc
picked_there b (f ∷ fs) (Some x ∷ os) xs h =
    let p = parts x (gathered os) xs h in
    front_there (is_wanted b f) x (picked b fs os) (picked b fs p.0) (picked_there b fs os p.0 p.1)
    ∙ ap (λ zs. Some (picked b (f ∷ fs) zs)) p.2

none_there : {A : Type 0} (x : A) (r : Option (List A)) → both (Some x) r ≡ None → r ≡ None
none_there x None h = refl
none_there x (Some xs) h = absurd cc

none_later : {A : Type 0} (x : A) (a b : Option (List A)) → with_rest a b ≡ None → with_rest a (both (Some x) b) ≡ None
none_later x None b h = refl
none_later x (Some xs) None h = refl
none_later x (Some xs) (Some ys) h = absurd cc

picked_none : {A : Type 0} (fs : List Bool) (os : List (Option A)) → length fs ≡ length os → gathered os ≡ None
    → with_rest (gathered (picked true fs os)) (gathered (picked false fs os)) ≡ None
picked_none [] [] l h = absurd cc
picked_none [] (o ∷ os) l h = absurd (omega arith)
picked_none (f ∷ fs) [] l h = absurd (omega arith)
picked_none (true ∷ fs) (None ∷ os) l h = refl
picked_none (false ∷ fs) (None ∷ os) l h = none_behind (gathered (picked true fs os))
picked_none (true ∷ fs) (Some x ∷ os) l h =
    let p = gathered (picked true fs os) in
    let q = gathered (picked false fs os) in
    sym (both_before (Some x) p q)
    ∙ ap (both (Some x)) (picked_none fs os (omega arith) (none_there x (gathered os) h))
picked_none (false ∷ fs) (Some x ∷ os) l h =
    none_later x (gathered (picked true fs os)) (gathered (picked false fs os)) (picked_none fs os (omega arith) (none_there x
    (gathered os) h))

arranged_as : {A : Type 0} (fs : List Bool) (os : List (Option A)) (r : Option (List A)) → length fs ≡ length os → gathered os ≡ r
    → gathered (arranged fs os) ≡ option_map (arranged fs) r
arranged_as fs os None l h = gathered_append (picked true fs os) (picked false fs os) ∙ picked_none fs os l h
arranged_as fs os (Some xs) l h =
    gathered_append (picked true fs os) (picked false fs os)
    ∙ ap (λ a. with_rest a (gathered (picked false fs os))) (picked_there true fs os xs h)
    ∙ ap (with_rest (Some (picked true fs xs))) (picked_there false fs os xs h)

pub gathered_arranged : {A : Type 0} (fs : List Bool) (os : List (Option A)) → length fs ≡ length os
    → gathered (arranged fs os) ≡ option_map (arranged fs) (gathered os)
gathered_arranged fs os l = arranged_as fs os (gathered os) l refl

-- ---- what is got at places

pub got_all : {A : Type 0} (vs : List A) (d : A) (ks : List ℕ) → AllByRecursion (λ k. k < length vs) ks
    → filter_map (slice_get vs) ks ≡ map (λ k. get_or vs k d) ks
got_all vs d [] a = refl
got_all vs d (k ∷ ks) a =
    ap (λ o. cons_option o (filter_map (slice_get vs) ks)) (slice_get-get_or vs k d a.0)
    ∙ ap (λ ys. get_or vs k d ∷ ys) (got_all vs d ks a.1)
