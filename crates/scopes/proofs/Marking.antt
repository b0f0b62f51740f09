-- The marks for one more word, and for one more hypothesis.
use Rattle.std.proofs.Common.{◌≡◌, inl, inr, ℕ, zero, suc, Bool, true, false, cond, List, [], ◌∷◌, ◌++◌, length, take, map}
use Rattle.std.proofs.Common.{Option, Some, None, refl, sym, ap, ◌∙◌, append_assoc, append-nil, take-suc, ◌<◌}
use Rattle.std.specs.Prelude.{◌||◌, filter, count_by}
use Rattle.std.specs.List.{AllByRecursion, list_any, slice_get}
use Rattle.std.specs.Option.{option_map_or}
use Rattle.std.specs.Str.{bytes_eq}
use Rattle.std.proofs.Math.Bool.{or-false, or-true, or_assoc, or_comm}
use Rattle.std.proofs.Math.ListN.{set}
use Rattle.std.proofs.lemmas.Bool.{cases_Bool}
use Rattle.std.proofs.lemmas.Option.{slice_get_within, get_or_from_slice_get}
use Rattle.std.proofs.lemmas.List.{map-append}
use Rattle.std.proofs.lemmas.List.Elements.{filter-append}
use Rattle.std.proofs.lemmas.List.Folds.{list_any-append}
use Rattle.std.proofs.lemmas.List.Sums.{length-filter}
use Rattle.mmtext.specs.Words.{Word}
use Rattle.mmsyntax.proofs.Names.{bytes_eq-sym}
use Rattle.source.specs.Scopes.{Hypothesis, typing, premise, is_in, is_float_of, stands_in, is_mandatory}
use Rattle.scopes.specs.declared.tables.Active.{Active}
use Rattle.scopes.specs.Found.{Found, passes_at}
use Rattle.scopes.specs.Views.{marked_links}
use Rattle.scopes.specs.Symbols.{symbols_of, symbols_at}
use Rattle.scopes.proofs.Found.{none_passes, found_any}

-- ---- a test that one more item passes

same_map : {A B : Type 0} (p q : A → B) (xs : List A) → ((x : A) → p x ≡ q x) → map p xs ≡ map q xs
same_map p q [] h = refl
same_map p q (x ∷ xs) h = let here : p x ≡ q x = h x in let later : map p xs ≡ map q xs = same_map p q xs h in cc

-- where none passes the other test
map_none : {A : Type 0} (test q : A → Bool) (xs : List A) → list_any test xs ≡ false → map q xs ≡ map (λ x. q x || test x) xs
map_none test q [] none = refl
map_none test q (x ∷ xs) none =
    let fails : test x ≡ false = none_passes test (x ∷ xs) zero x none refl in
    let later : list_any test xs ≡ false = ap (λ b. b || list_any test xs) (sym fails) ∙ none in
    let here : q x ≡ (q x || test x) = sym (ap (λ b. q x || b) fails ∙ or-false (q x)) in
    let rest : map q xs ≡ map (λ x. q x || test x) xs = map_none test q xs later in
    cc

found_later : {A : Type 0} (test : A → Bool) (x : A) (xs : List A) (i : ℕ) → Found test (x ∷ xs) (Some (suc i)) → Found test xs (Some i)
found_later test x xs i h = λ k y at passes. let e : Some (suc i) ≡ Some (suc k) = h (suc k) y at passes in cc

found_first : {A : Type 0} (test : A → Bool) (x : A) (xs : List A) → Found test (x ∷ xs) (Some zero) → Found test xs None
found_first test x xs h = λ k y at passes. let e : Some zero ≡ Some (suc k) = h (suc k) y at passes in absurd cc

fails_first : {A : Type 0} (test : A → Bool) (x : A) (xs : List A) (i : ℕ) → Found test (x ∷ xs) (Some (suc i)) → test x ≡ false
fails_first test x xs i h = elim (cases_Bool (test x)) [
  | inl y ↦ let e : Some (suc i) ≡ Some zero = h zero x refl y in absurd cc
  | inr n ↦ n
]

-- where the one that passes the other test stands at a noted place
pub map_one : {A : Type 0} (test q : A → Bool) (xs : List A) (i : ℕ) → Found test xs (Some i) → passes_at test xs (Some i) ≡ true
    → set (map q xs) i true ≡ map (λ x. q x || test x) xs
map_one test q [] i h there = absurd cc
map_one test q (x ∷ xs) zero h there =
    let passes : test x ≡ true = there in
    let here : true ≡ (q x || test x) = sym (ap (λ b. q x || b) passes ∙ or-true (q x)) in
    let rest : map q xs ≡ map (λ x. q x || test x) xs = map_none test q xs (found_any test xs None (found_first test x xs h)) in
    cc
map_one test q (x ∷ xs) (suc i) h there =
    let fails : test x ≡ false = fails_first test x xs i h in
    let here : q x ≡ (q x || test x) = sym (ap (λ b. q x || b) fails ∙ or-false (q x)) in
    let rest : set (map q xs) i true ≡ map (λ x. q x || test x) xs = map_one test q xs i (found_later test x xs i h) there in
    cc

-- ---- one more word

-- a hypothesis is mandatory for one more word where it is so for the others, or is the $f of that word
more_mandatory : (hs : List Hypothesis) (ws : List Word) (w : Word) (h : Hypothesis)
    → (is_mandatory hs ws h || is_float_of w h) ≡ is_mandatory hs (ws ++ w ∷ []) h
more_mandatory hs ws w (premise label us) = refl
more_mandatory hs ws w (typing label c v) =
    let others : Bool = list_any (stands_in v) hs in
    ap (λ b. (is_in ws v || others) || b) (bytes_eq-sym w v)
    ∙ or_assoc (is_in ws v) others (bytes_eq v w)
    ∙ ap (λ b. is_in ws v || b) (or_comm others (bytes_eq v w))
    ∙ sym (or_assoc (is_in ws v) (bytes_eq v w) others)
    ∙ ap (λ b. (is_in ws v || b) || others) (sym (or-false (bytes_eq v w)))
    ∙ ap (λ b. b || others) (sym (list_any-append (bytes_eq v) ws (w ∷ [])))

pub mark_none : (xs hs : List Hypothesis) (ws : List Word) (w : Word) → Found (is_float_of w) xs None
    → map (is_mandatory hs ws) xs ≡ map (is_mandatory hs (ws ++ w ∷ [])) xs
mark_none xs hs ws w h =
    map_none (is_float_of w) (is_mandatory hs ws) xs (found_any (is_float_of w) xs None h)
    ∙ same_map _ _ xs (more_mandatory hs ws w)

pub mark_one : (xs hs : List Hypothesis) (ws : List Word) (w : Word) (i : ℕ) → Found (is_float_of w) xs (Some i)
    → passes_at (is_float_of w) xs (Some i) ≡ true
    → set (map (is_mandatory hs ws) xs) i true ≡ map (is_mandatory hs (ws ++ w ∷ [])) xs
mark_one xs hs ws w i h there =
    map_one (is_float_of w) (is_mandatory hs ws) xs i h there
    ∙ same_map _ _ xs (more_mandatory hs ws w)

-- ---- the words behind others

pub take_none : {A : Type 0} (xs : List A) (i : ℕ) → slice_get xs i ≡ None → take (suc i) xs ≡ take i xs
take_none [] zero at = refl
take_none [] (suc i) at = refl
take_none (y ∷ ys) zero at = absurd cc
take_none (y ∷ ys) (suc i) at = ap (λ rest. y ∷ rest) (take_none ys i at)

pub behind_there : {A : Type 0} (front xs : List A) (i : ℕ) (x : A) → slice_get xs i ≡ Some x
    → (front ++ take i xs) ++ x ∷ [] ≡ front ++ take (suc i) xs
behind_there front xs i x at =
    append_assoc front (take i xs) (x ∷ [])
    ∙ ap (λ y. front ++ (take i xs ++ y ∷ [])) (sym (get_or_from_slice_get xs i x x at))
    ∙ ap (λ rest. front ++ rest) (sym (take-suc xs i x (slice_get_within xs i x at)))

pub behind_none : {A : Type 0} (front xs : List A) (i : ℕ) → slice_get xs i ≡ None → front ++ take i xs ≡ front ++ take (suc i) xs
behind_none front xs i at = ap (λ rest. front ++ rest) (sym (take_none xs i at))

-- ---- one more hypothesis

any_more : {A : Type 0} (test : A → Bool) (xs : List A) (i : ℕ)
    → list_any test (take (suc i) xs) ≡ (list_any test (take i xs) || option_map_or test (slice_get xs i) false)
any_more test [] zero = refl
any_more test [] (suc i) = refl
any_more test (x ∷ xs) zero = or-false (test x)
any_more test (x ∷ xs) (suc i) =
    ap (λ b. test x || b) (any_more test xs i)
    ∙ sym (or_assoc (test x) (list_any test (take i xs)) (option_map_or test (slice_get xs i) false))

stands_there : (v : Word) (h : Hypothesis) → stands_in v h ≡ is_in (symbols_of h) v
stands_there v (typing label c u) = refl
stands_there v (premise label us) = refl

stands_at : (v : Word) (hs : List Hypothesis) (i : ℕ) → option_map_or (stands_in v) (slice_get hs i) false ≡ is_in (symbols_at hs i) v
stands_at v hs i = there (slice_get hs i)
  where
    there : (o : Option Hypothesis) → option_map_or (stands_in v) o false ≡ is_in (option_map_or symbols_of o []) v
    there None = refl
    there (Some h) = stands_there v h

next_mandatory : (hs : List Hypothesis) (ws : List Word) (i : ℕ) (h : Hypothesis)
    → is_mandatory (take i hs) (ws ++ symbols_at hs i) h ≡ is_mandatory (take (suc i) hs) ws h
next_mandatory hs ws i (premise label us) = refl
next_mandatory hs ws i (typing label c v) =
    let before : Bool = list_any (stands_in v) (take i hs) in
    ap (λ b. b || before) (list_any-append (bytes_eq v) ws (symbols_at hs i))
    ∙ or_assoc (is_in ws v) (is_in (symbols_at hs i) v) before
    ∙ ap (λ b. is_in ws v || b) (or_comm (is_in (symbols_at hs i) v) before)
    ∙ ap (λ b. is_in ws v || (before || b)) (sym (stands_at v hs i))
    ∙ ap (λ b. is_in ws v || b) (sym (any_more (stands_in v) hs i))

pub mark_next : (xs hs : List Hypothesis) (ws : List Word) (i : ℕ)
    → map (is_mandatory (take i hs) (ws ++ symbols_at hs i)) xs ≡ map (is_mandatory (take (suc i) hs) ws) xs
mark_next xs hs ws i = same_map _ _ xs (next_mandatory hs ws i)

-- ---- how many are marked

same_count : {A B : Type 0} (f : A → Bool) (q : B → Bool) (xs : List A) (ys : List B) → map f xs ≡ map q ys
    → length (filter f xs) ≡ length (filter q ys)
same_count f q [] [] e = refl
same_count f q [] (y ∷ ys) e = absurd cc
same_count f q (x ∷ xs) [] e = absurd cc
same_count f q (x ∷ xs) (y ∷ ys) e =
    let here : f x ≡ q y = cc in
    let later : map f xs ≡ map q ys = cc in
    let rest : length (filter f xs) ≡ length (filter q ys) = same_count f q xs ys later in
    ap (λ b. length (cond b (x ∷ filter f xs) (filter f xs))) here
    ∙ elim (q y) as (λ b. length (cond b (x ∷ filter f xs) (filter f xs)) ≡ length (cond b (y ∷ filter q ys) (filter q ys))) [
      | true ↦ ap (λ n. suc n) rest
      | false ↦ rest
    ]

-- as many are marked as pass the test that the marks are of
pub count_map : {A B : Type 0} (f : A → Bool) (q : B → Bool) (xs : List A) (ys : List B) → map f xs ≡ map q ys
    → count_by f xs ≡ length (filter q ys)
count_map f q xs ys e = sym (length-filter f xs) ∙ same_count f q xs ys e

-- ---- the numbers of those that are marked

pub marked_within : (n : ℕ) (xs : List Active) → AllByRecursion (λ a. a.link < n) xs → AllByRecursion (λ i. i < n) (marked_links xs)
marked_within n [] h = tt
marked_within n (x ∷ xs) h =
    let rest = marked_within n xs h.1 in
    let marked = filter (λ a. a.is_mandatory) xs in
    elim x.is_mandatory as (λ b. AllByRecursion (λ i. i < n) (map (λ a. a.link) (cond b (x ∷ marked) marked))) [
      | true ↦ (h.0, rest)
      | false ↦ rest
    ]

-- they are of those that pass the test that the marks are of
pub marked_pass : (f : ℕ → Hypothesis) (test : Hypothesis → Bool) (xs : List Active)
    → map (λ a. a.is_mandatory) xs ≡ map test (map (λ a. f a.link) xs)
    → map f (marked_links xs) ≡ filter test (map (λ a. f a.link) xs)
marked_pass f test [] e = refl
marked_pass f test (x ∷ xs) e =
    let here : x.is_mandatory ≡ test (f x.link) = cc in
    let later : map (λ a. a.is_mandatory) xs ≡ map test (map (λ a. f a.link) xs) = cc in
    let rest : map f (marked_links xs) ≡ filter test (map (λ a. f a.link) xs) = marked_pass f test xs later in
    let marked = filter (λ (a : Active). a.is_mandatory) xs in
    let passed = filter test (map (λ a. f a.link) xs) in
    ap (λ b. map f (map (λ a. a.link) (cond b (x ∷ marked) marked))) here
    ∙ elim (test (f x.link)) as (λ b. map f (map (λ a. a.link) (cond b (x ∷ marked) marked)) ≡ cond b (f x.link ∷ passed) passed) [
      | true ↦ ap (λ hs. f x.link ∷ hs) rest
      | false ↦ rest
    ]

-- one more
pub marked_more : (xs : List Active) (x : Active) (links : List ℕ) → links ≡ marked_links xs
    → cond x.is_mandatory (links ++ x.link ∷ []) links ≡ marked_links (xs ++ x ∷ [])
marked_more xs x links e =
    let marked : Active → Bool = λ a. a.is_mandatory in
    let more : filter marked (xs ++ x ∷ []) ≡ filter marked xs ++ filter marked (x ∷ []) = filter-append marked xs (x ∷ []) in
    let link : Active → ℕ = λ a. a.link in
    let both : marked_links (xs ++ x ∷ []) ≡ marked_links xs ++ marked_links (x ∷ []) =
    ap (map link) more ∙ map-append link (filter marked xs) (filter marked (x ∷ [])) in
    ap (λ ls. cond x.is_mandatory (ls ++ x.link ∷ []) ls) e
    ∙ elim x.is_mandatory as (λ b. cond b (marked_links xs ++ x.link ∷ []) (marked_links xs)
    ≡ marked_links xs ++ map link (cond b (x ∷ []) [])) [
      | true ↦ refl
      | false ↦ sym (append-nil (marked_links xs))
    ]
    ∙ sym both
