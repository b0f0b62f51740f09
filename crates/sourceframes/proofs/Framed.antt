-- How an assertion is cited, as it is made.
use Rattle.std.proofs.Common.{◌≡◌, ℕ, zero, suc, ◌+◌, ◌<◌, ◌≤◌, Bool, true, false, cond, List, [], ◌∷◌, ◌++◌, length, map, filter, take, get_or, refl, sym, ap}
use Rattle.std.proofs.Common.{◌∙◌, arith}
use Rattle.std.specs.Prelude.{◌&&◌, ◌||◌, Option, Some, None, if◌then◌else◌}
use Rattle.std.specs.Option.{option_map}
use Rattle.std.specs.List.{list_any, filter_map, cons_option}
use Rattle.std.specs.Str.{bytes_eq}
use Rattle.mmtext.specs.Words.{Word}
use Rattle.mmsyntax.specs.Tables.{place_of}
use Rattle.mmsyntax.proofs.FirstPlace.{none_behind}
use Rattle.source.specs.Scopes.{Hypothesis, typing, premise, Assertion, is_in, is_float_of, stands_in, is_mandatory_variable, is_mandatory}
use Rattle.source.specs.Scopes.{mandatory, mandatory_pairs}
use Rattle.sourceframes.specs.Frames.{found, part_in, variable_of, AreVariables, is_that, is_kept}

-- ---- variables

pub placed_map : {A B : Type 0} (p : B → Bool) (f : A → B) (xs : List A) → place_of p (map f xs) ≡ place_of (λ x. p (f x)) xs
placed_map p f [] = refl
placed_map p f (x ∷ xs) = ap (λ o. if p (f x) then Some 0 else option_map (λ n. suc n) o) (placed_map p f xs)

floats_placed : (w : Word) (hs : List Hypothesis) → place_of (is_that w) (map variable_of hs) ≡ place_of (is_float_of w) hs
floats_placed w [] = refl
floats_placed w (typing label c v ∷ hs) =
    ap (λ o. if bytes_eq w v then Some 0 else option_map (λ n. suc n) o) (floats_placed w hs)
floats_placed w (premise label ws ∷ hs) = ap (option_map (λ n. suc n)) (floats_placed w hs)

pub found_place : (w : Word) (vs : List (Option Word)) (o : Option ℕ) → o ≡ place_of (is_that w) vs
    → (hs : List Hypothesis) → AreVariables hs vs → found w o ≡ part_in hs w
found_place w vs o e hs is = ap (found w) (e ∙ ap (place_of (is_that w)) is ∙ floats_placed w hs)

-- ---- the place of the first item that passes a test

no_front : (b : Bool) (o : Option ℕ) → (if b then Some 0 else option_map (λ n. suc n) o) ≡ None → (b ≡ false) × (o ≡ None)
no_front true o h = absurd cc
no_front false o h = (refl, none_behind o h)

pub none_of : {A : Type 0} (p : A → Bool) (xs : List A) (i : ℕ) → length xs ≤ i → place_of p (take i xs) ≡ None → place_of p xs ≡ None
none_of p [] i le e = refl
none_of p (x ∷ xs) zero le e = absurd (omega arith)
none_of p (x ∷ xs) (suc i) le e =
    let both = no_front (p x) (place_of p (take i xs)) e in
    ap (λ b. if b then Some 0 else option_map (λ n. suc n) (place_of p xs)) both.0
    ∙ ap (option_map (λ n. suc n)) (none_of p xs i (omega arith) both.1)

pub first_of : {A : Type 0} (p : A → Bool) (xs : List A) (i : ℕ) (d : A) → i < length xs → place_of p (take i xs) ≡ None
    → p (get_or xs i d) ≡ true → place_of p xs ≡ Some i
first_of p [] i d lt e h = absurd (omega arith)
first_of p (x ∷ xs) zero d lt e h = ap (λ b. if b then Some 0 else option_map (λ n. suc n) (place_of p xs)) h
first_of p (x ∷ xs) (suc i) d lt e h =
    let both = no_front (p x) (place_of p (take i xs)) e in
    ap (λ b. if b then Some 0 else option_map (λ n. suc n) (place_of p xs)) both.0
    ∙ ap (option_map (λ n. suc n)) (first_of p xs i d (omega arith) both.1 h)

still : {A : Type 0} (p : A → Bool) (xs : List A) (i : ℕ) (d : A) → i < length xs → place_of p (take i xs) ≡ None
    → p (get_or xs i d) ≡ false → place_of p (take (suc i) xs) ≡ None
still p [] i d lt e h = absurd (omega arith)
still p (x ∷ xs) zero d lt e h = ap (λ b. if b then Some 0 else None) h
still p (x ∷ xs) (suc i) d lt e h =
    let both = no_front (p x) (place_of p (take i xs)) e in
    ap (λ b. if b then Some 0 else option_map (λ n. suc n) (place_of p (take (suc i) xs))) both.0
    ∙ ap (option_map (λ n. suc n)) (still p xs i d (omega arith) both.1 h)

pub still_none : {A : Type 0} (p : A → Bool) (xs : List A) (i : ℕ) (d : A) → i < length xs → place_of p (take i xs) ≡ None
    → p (get_or xs i d) ≡ false → place_of p (take (i + 1) xs) ≡ None
still_none p xs i d lt e h =
    let f : i + 1 ≡ suc i = omega arith in ap (λ n. place_of p (take n xs)) f ∙ still p xs i d lt e h

-- ---- lists

pub map_same : {A : Type 0} (xs : List A) → map (λ x. x) xs ≡ xs
map_same [] = refl
map_same (x ∷ xs) = ap (λ ys. x ∷ ys) (map_same xs)

pub kept_push : {A : Type 0} (p : A → Bool) (xs : List A) (x : A) → p x ≡ true → filter p (xs ++ x ∷ []) ≡ filter p xs ++ x ∷ []
kept_push p [] x h = ap (λ b. cond b (x ∷ []) []) h
kept_push {A} p (y ∷ ys) x h =
    let rest = kept_push p ys x h in
    elim (p y) as (λ b. cond b (y ∷ filter p (ys ++ x ∷ [])) (filter p (ys ++ x ∷ [])) ≡ cond b (y ∷ filter p ys) (filter p ys) ++ x ∷ []) [
      | true ↦ ap (λ l. y ∷ l) rest
      | false ↦ rest
    ]

pub passed_push : {A : Type 0} (p : A → Bool) (xs : List A) (x : A) → p x ≡ false → filter p (xs ++ x ∷ []) ≡ filter p xs
passed_push p [] x h = ap (λ b. cond b (x ∷ []) []) h
passed_push {A} p (y ∷ ys) x h =
    let rest = passed_push p ys x h in
    elim (p y) as (λ b. cond b (y ∷ filter p (ys ++ x ∷ [])) (filter p (ys ++ x ∷ [])) ≡ cond b (y ∷ filter p ys) (filter p ys)) [
      | true ↦ ap (λ l. y ∷ l) rest
      | false ↦ rest
    ]

cons_last : {A : Type 0} (o : Option A) (xs : List A) (y : A) → cons_option o (xs ++ y ∷ []) ≡ cons_option o xs ++ y ∷ []
cons_last None xs y = refl
cons_last (Some x) xs y = refl

pub given_some : {A B : Type 0} (f : A → Option B) (xs : List A) (x : A) (y : B) → f x ≡ Some y
    → filter_map f (xs ++ x ∷ []) ≡ filter_map f xs ++ y ∷ []
given_some f [] x y h = ap (λ o. cons_option o []) h
given_some f (z ∷ xs) x y h = ap (cons_option (f z)) (given_some f xs x y h) ∙ cons_last (f z) (filter_map f xs) y

pub given_none : {A B : Type 0} (f : A → Option B) (xs : List A) (x : A) → f x ≡ None → filter_map f (xs ++ x ∷ []) ≡ filter_map f xs
given_none f [] x h = ap (λ o. cons_option o []) h
given_none f (z ∷ xs) x h = ap (cons_option (f z)) (given_none f xs x h)

-- ---- words that are mentioned

pub in_both : (vs ws : List Word) (w : Word) → is_in (vs ++ ws) w ≡ (is_in vs w || is_in ws w)
in_both [] ws w = refl
in_both (v ∷ vs) ws w = ap (λ b. bytes_eq w v || b) (in_both vs ws w) ∙ sym (or_assoc (bytes_eq w v) (is_in vs w) (is_in ws w))
  where
    or_assoc : (a b c : Bool) → ((a || b) || c) ≡ (a || (b || c))
    or_assoc true b c = refl
    or_assoc false b c = refl

or_assoc : (a b c : Bool) → ((a || b) || c) ≡ (a || (b || c))
or_assoc true b c = refl
or_assoc false b c = refl

or_false : (a : Bool) → (a || false) ≡ a
or_false true = refl
or_false false = refl

any_push : {A : Type 0} (p : A → Bool) (xs : List A) (x : A) → list_any p (xs ++ x ∷ []) ≡ (list_any p xs || p x)
any_push p [] x = or_false (p x)
any_push p (y ∷ ys) x = ap (λ b. p y || b) (any_push p ys x) ∙ sym (or_assoc (p y) (list_any p ys) (p x))

pub one_mentioned : (hs : List Hypothesis) (h : Hypothesis) (st : List Word) (w : Word) (a b : Bool)
    → a ≡ is_mandatory_variable hs st w → b ≡ (a || stands_in w h) → b ≡ is_mandatory_variable (hs ++ h ∷ []) st w
one_mentioned hs h st w a b is more =
    more ∙ ap (λ c. c || stands_in w h) is ∙ or_assoc (is_in st w) (list_any (stands_in w) hs) (stands_in w h)
    ∙ ap (λ c. is_in st w || c) (sym (any_push (stands_in w) hs h))

pub none_mentioned : (st : List Word) (w : Word) → is_in st w ≡ is_mandatory_variable [] st w
none_mentioned st w = sym (or_false (is_in st w))

-- ---- the frame of a whole assertion

kept_premises : (p : Hypothesis → Bool) → ((l : Word) (ws : List Word) → p (premise l ws) ≡ true) → (w : Word) (hs : List Hypothesis)
    → list_any (stands_in w) (filter p hs) ≡ list_any (stands_in w) hs
kept_premises p keeps w [] = refl
kept_premises p keeps w (typing l c v ∷ hs) =
    let rest = kept_premises p keeps w hs in
    elim (p (typing l c v)) as (λ b. list_any (stands_in w) (cond b (typing l c v ∷ filter p hs) (filter p hs)) ≡ list_any (stands_in w)
    hs) [
      | true ↦ rest
      | false ↦ rest
    ]
kept_premises p keeps w (premise l ws ∷ hs) =
    ap (λ b. list_any (stands_in w) (cond b (premise l ws ∷ filter p hs) (filter p hs))) (keeps l ws)
    ∙ ap (λ b. is_in ws w || b) (kept_premises p keeps w hs)

mandatory_alike : (x : Assertion) → mandatory x.active x.statement ≡ x.hypotheses → (w : Word)
    → is_mandatory_variable x.hypotheses x.statement w ≡ is_mandatory_variable x.active x.statement w
mandatory_alike x e w =
    ap (λ hs. is_in x.statement w || list_any (stands_in w) hs) (sym e)
    ∙ ap (λ b. is_in x.statement w || b) (kept_premises (is_mandatory x.active x.statement) (λ l ws. refl) w x.active)

filters_alike : {A : Type 0} (p q : A → Bool) (xs : List A) → ((x : A) → p x ≡ q x) → filter p xs ≡ filter q xs
filters_alike p q [] h = refl
filters_alike {A} p q (x ∷ xs) h =
    ap (λ b. cond b (x ∷ filter p xs) (filter p xs)) (h x) ∙ ap (λ (l : List A). cond (q x) (x ∷ l) l) (filters_alike p q xs h)

pub kept_pairs : (x : Assertion) (ms : List Word) → mandatory x.active x.statement ≡ x.hypotheses
    → ((w : Word) → is_in ms w ≡ is_mandatory_variable x.hypotheses x.statement w) → filter (is_kept ms) x.pairs ≡ mandatory_pairs x
kept_pairs x ms e is =
    filters_alike (is_kept ms) (λ p. is_mandatory_variable x.active x.statement p.0 && is_mandatory_variable x.active x.statement p.1)
    x.pairs
    (λ p. ap (λ b. b && is_in ms p.1) (is p.0 ∙ mandatory_alike x e p.0)
    ∙ ap (λ b. is_mandatory_variable x.active x.statement p.0 && b) (is p.1 ∙ mandatory_alike x e p.1))
