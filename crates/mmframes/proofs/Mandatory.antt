-- Which variables stand in an assertion: collected one by one, then in order, each once.
use Rattle.std.proofs.Common.{◌≡◌, ◌≢◌, ℕ, zero, suc, ◌+◌, ◌<◌, ◌≤◌, Bool, true, false, ◌||◌, ◌&&◌, List, [], ◌∷◌, length, drop, get_or}
use Rattle.std.proofs.Common.{refl, sym, ap, ◌∙◌, arith, add-one, eqb, ltb, ⊎_elim, Contains, Result, Ok, Err}
use Rattle.std.proofs.Math.Bool.{or-false}
use Rattle.std.proofs.Math.Nat.{eq-or-lt_of_le}
use Rattle.std.proofs.Math.Seq.{drop-cons}
use Rattle.std.specs.Prelude.{filter, is_ok, MatchResult}
use Rattle.std.specs.List.{dedup, list_any, range_with_len}
use Rattle.std.specs.List.Sorted.{IsPermutation, IsStrictlyIncreasing}
use Rattle.std.proofs.lemmas.Bool.Decides.{Decides-eqb, Decides-ltb, leb_tells}
use Rattle.std.proofs.lemmas.List.Kept.{Contains-dedup_nat, Contains-from_dedup}
use Rattle.std.proofs.lemmas.List.Sorted.{Contains-permutation, IsPermutation-sym}
use Rattle.mmsyntax.proofs.Options.{alike}

-- whether a number is one of a list
abbrev pub has : ℕ → List ℕ → Bool
has j xs = list_any (λ k. eqb k j) xs

eqb-other : (a b : ℕ) → a ≢ b → eqb a b ≡ false
eqb-other a b other = elim (eqb a b) as (λ t. eqb a b ≡ t → t ≡ false)
    [ true ↦ λ e. absurd (other ((Decides-eqb a b).0 e)) | false ↦ λ e. refl ] refl

and-false : (b : Bool) → (b && false) ≡ false
and-false true = refl
and-false false = refl

-- ---- one more symbol

pub note_constant : (old b : Bool) → old ≡ (old || (b && false))
note_constant old b = rw (and-false b) (sym (or-false old))

pub list_any-drop : {X : Type 0} (p : X → Bool) (xs : List X) (i : ℕ) (d : X) → i < length xs
    → list_any p (drop i xs) ≡ (p (get_or xs i d) || list_any p (drop (i + 1) xs))
list_any-drop p xs i d lt = rw (drop-cons xs i d, add-one) refl

-- what stands at the front of what is left joins what was found
front : (new old b here rest done : Bool) → new ≡ (old || (b && here)) → (old || (b && (here || rest))) ≡ done
    → (new || (b && rest)) ≡ done
front new true true here rest done e h = rw e h
front new false true here rest done e h = rw e h
front new true false here rest done e h = rw e h
front new false false here rest done e h = rw e h

pub one_more : {X : Type 0} (p : X → Bool) (xs : List X) (i : ℕ) (d : X) (new old b done : Bool) → i < length xs
    → new ≡ (old || (b && p (get_or xs i d))) → (old || (b && list_any p (drop i xs))) ≡ done
    → (new || (b && list_any p (drop (i + 1) xs))) ≡ done
one_more p xs i d new old b done lt e h =
    front new old b (p (get_or xs i d)) (list_any p (drop (i + 1) xs)) done e
    (ap (λ x. old || (b && x)) (sym (list_any-drop p xs i d lt)) ∙ h)

-- ---- in order, each once

has-Contains : (j : ℕ) (xs : List ℕ) → has j xs ≡ true → Contains xs j
has-Contains j [] h = cc
has-Contains j (x ∷ xs) h = elim (eqb x j) as (λ b. eqb x j ≡ b → (b || has j xs) ≡ true → Contains (x ∷ xs) j) [
  | true ↦ λ e t. (zero, omega arith, (Decides-eqb x j).0 e)
  | false ↦ λ e t. let later = has-Contains j xs t in (suc later.0, omega (arith, later.1), later.2)
] refl h

pub at-has : (j : ℕ) (xs : List ℕ) (k d : ℕ) → k < length xs → get_or xs k d ≡ j → has j xs ≡ true
at-has j [] k d lt e = absurd (omega arith)
at-has j (x ∷ xs) zero d lt e = rw ((Decides-eqb x j).1 e) refl
at-has j (x ∷ xs) (suc k) d lt e =
    elim (eqb x j) as (λ b. (b || has j xs) ≡ true) [ true ↦ refl | false ↦ at-has j xs k d (omega arith) e ]

pub same-has : (listed sorted left : List ℕ) (j : ℕ) → IsPermutation listed sorted → left ≡ dedup eqb sorted → has j left ≡ has j listed
same-has listed sorted left j moved is = rw is (alike _ _
    (λ t. let there = Contains-permutation sorted listed j (IsPermutation-sym listed sorted moved)
    (Contains-from_dedup eqb sorted j (has-Contains j (dedup eqb sorted) t)) in at-has j listed there.0 j there.1 there.2)
    (λ t. let there = Contains-dedup_nat sorted j (Contains-permutation listed sorted j moved (has-Contains j listed t)) in
    at-has j (dedup eqb sorted) there.0 j there.1 there.2))

-- numbers that ascend from one on, each once
abbrev pub Rises : ℕ → List ℕ → Type 0
Rises a [] = Unit {0}
Rises a (x ∷ xs) = (a ≤ x) × Rises (x + 1) xs

pub Rises-from : (a : ℕ) (xs : List ℕ) → (0 < length xs → a ≤ get_or xs 0 0) → IsStrictlyIncreasing xs → Rises a xs
Rises-from a [] low up = tt
Rises-from a (x ∷ xs) low up = (
  low (omega arith),
  Rises-from (x + 1) xs (λ lt. let next = up 0 (omega arith) in omega arith)
      (λ k lt. let e : suc k + 1 ≡ suc (k + 1) = omega arith in rw e at (up (suc k) (omega arith))),
)

Rises-low : (a : ℕ) (xs : List ℕ) (j : ℕ) → Rises a xs → j < length xs → a ≤ get_or xs j 0
Rises-low a [] j r lt = absurd (omega arith)
Rises-low a (x ∷ xs) zero r lt = r.0
Rises-low a (x ∷ xs) (suc j) r lt = let later = Rises-low (x + 1) xs j r.1 (omega arith) in omega (arith, r.0)

pub Rises-order : (a : ℕ) (xs : List ℕ) → Rises a xs → (i j : ℕ) → i ≤ j → j < length xs → get_or xs i 0 ≤ get_or xs j 0
Rises-order a [] r i j le lt = absurd (omega arith)
Rises-order a (x ∷ xs) r zero zero le lt = omega arith
Rises-order a (x ∷ xs) r zero (suc j) le lt = let later = Rises-low (x + 1) xs j r.1 (omega arith) in omega arith
Rises-order a (x ∷ xs) r (suc i) zero le lt = absurd (omega arith)
Rises-order a (x ∷ xs) r (suc i) (suc j) le lt = Rises-order (x + 1) xs r.1 i j (omega arith) (omega arith)

Rises-none : (a j : ℕ) (xs : List ℕ) → j < a → Rises a xs → has j xs ≡ false
Rises-none a j [] lt r = refl
Rises-none a j (x ∷ xs) lt r =
    let other : x ≢ j = λ e. omega (arith, r.0) in
    rw (eqb-other x j other) (Rises-none (x + 1) j xs (omega (arith, r.0)) r.1)

-- what halving finds
pub halved-has : (xs : List ℕ) (x : ℕ) (r : Result ℕ ℕ) → MatchResult r (λ i. (i < length xs) × (get_or xs i 0 ≡ x))
    (λ i. (i ≤ length xs) × ((k : ℕ) → k < i → get_or xs k 0 < x) × ((k : ℕ) → i ≤ k → k < length xs → x < get_or xs k 0))
    → is_ok r ≡ has x xs
halved-has xs x (Ok i) h = sym (at-has x xs i 0 h.0 h.1)
halved-has xs x (Err i) h = alike false (has x xs) (λ e. cc) (λ t.
    let there = has-Contains x xs t in
    let same : get_or xs there.0 0 ≡ x = get_or-any xs there.0 0 x there.1 ∙ there.2 in
    absurd (⊎_elim (λ high. let above = h.2 there.0 high.1 there.1 in omega arith) (λ low. let below = h.1 there.0 low.1 in omega arith)
    (leb_tells i there.0)))
  where
    get_or-any : (ys : List ℕ) (k d e : ℕ) → k < length ys → get_or ys k d ≡ get_or ys k e
    get_or-any [] k d e lt = absurd (omega arith)
    get_or-any (y ∷ ys) zero d e lt = refl
    get_or-any (y ∷ ys) (suc k) d e lt = get_or-any ys k d e (omega arith)

-- they are those of a range that they are
kept-first : (p : ℕ → Bool) (x n : ℕ) (xs : List ℕ) → p x ≡ true → xs ≡ filter p (range_with_len (x + 1) n)
    → x ∷ xs ≡ filter p (range_with_len x (suc n))
kept-first p x n xs there later = rw there (ap (λ l. x ∷ l) later)

pub Rises-filter : (p : ℕ → Bool) (a n : ℕ) (xs : List ℕ) → Rises a xs → ((j : ℕ) → a ≤ j → has j xs ≡ p j)
    → ((j : ℕ) → p j ≡ true → j < a + n) → xs ≡ filter p (range_with_len a n)
Rises-filter p a zero [] r h b = refl
Rises-filter p a zero (x ∷ xs) r h b =
    let there : p x ≡ true = sym (h x r.0) ∙ at-has x (x ∷ xs) zero x (omega arith) refl in
    absurd (omega (arith, b x there, r.0))
Rises-filter p a (suc n) [] r h b =
    let none : p a ≡ false = sym (h a (omega arith)) in
    rw none (Rises-filter p (a + 1) n [] tt (λ j le. h j (omega arith)) (λ j t. omega (arith, b j t)))
Rises-filter p a (suc n) (x ∷ xs) r h b = ⊎_elim
    (λ e. let there : p x ≡ true = sym (h x r.0) ∙ at-has x (x ∷ xs) zero x (omega arith) refl in
    let later = Rises-filter p (x + 1) n xs r.1
    (λ j le. let other : x ≢ j = λ same. omega arith in
    let here : (eqb x j || has j xs) ≡ p j = h j (omega (arith, r.0)) in rw (eqb-other x j other) at here)
    (λ j t. omega (arith, b j t)) in
    rw e (kept-first p x n xs there later))
    (λ lt. let none : p a ≡ false = sym (h a (omega arith)) ∙ Rises-none x a (x ∷ xs) lt (omega arith, r.1) in
    rw none (Rises-filter p (a + 1) n (x ∷ xs) (omega arith, r.1) (λ j le. h j (omega arith)) (λ j t. omega (arith, b j t))))
    (eq-or-lt_of_le r.0)

pub below-count : (j n : ℕ) (b : Bool) → (ltb j n && b) ≡ true → j < n
below-count j n b h = elim (ltb j n) as (λ t. ltb j n ≡ t → (t && b) ≡ true → j < n)
    [ true ↦ λ e t. (Decides-ltb j n).0 e | false ↦ λ e t. cc ] refl h
