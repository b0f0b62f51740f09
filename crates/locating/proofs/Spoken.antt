-- Words that were spoken, with those in front and behind, one after the other from both ends.
use Rattle.std.proofs.Common.{◌≡◌, ◌∙◌, ℕ, zero, suc, ◌+◌, ◌-◌, ◌<◌, ◌≤◌, Bool, true, false, List, [], ◌∷◌, ◌++◌, length, map, take, drop, get_or, reverse, Some, None, refl, sym, ap, arith, append_assoc, append-nil}
use Rattle.std.specs.Prelude.{find, pred, codes, if◌then◌else◌}
use Rattle.locating.specs.Fronts.{says}
use Rattle.std.proofs.lemmas.List.{reverse-append, take-map, drop-map, length-map, length-drop, get_or-map, take_all}
use Rattle.mmtext.specs.declared.token.Token.{Token as Piece}
use Rattle.mmtext.specs.Text.{Token}
use Rattle.mmtext.specs.Views.{seen}
use Rattle.locating.specs.Taken.{Spoken, spoken_behind, spoken, closed_with, closed_by}

-- ---- the one at a place

spoken_at : (front ts : List Token) (i : ℕ) (d : Spoken) (t : Token) → i < length ts
    → get_or (spoken_behind front ts) i d ≡ record { front = front ++ take i ts; word = get_or ts i t; behind = drop (i + 1) ts }
spoken_at front [] i d t lt = absurd (omega arith)
spoken_at front (u ∷ ts) zero d t lt = ap (λ l. record { front = l; word = u; behind = ts }) (sym (append-nil front))
spoken_at front (u ∷ ts) (suc i) d t lt =
    let e : i + 1 + 1 ≡ suc i + 1 = omega arith in
    let next : suc (i + 1) ≡ suc i + 1 = omega arith in
    let far : drop (i + 1) ts ≡ drop (suc i + 1) (u ∷ ts) = ap (λ n. drop n (u ∷ ts)) next in
    spoken_at (front ++ u ∷ []) ts i d t (omega arith)
    ∙ ap (λ l. record { front = l; word = get_or ts i t; behind = drop (i + 1) ts }) (append_assoc front (u ∷ []) (take i ts))
    ∙ ap (λ l. record { front = front ++ u ∷ take i ts; word = get_or ts i t; behind = l }) far

pub spoken_is : (ts : List Token) (i : ℕ) (d : Spoken) (t : Token) → i < length ts
    → get_or (spoken ts) i d ≡ record { front = take i ts; word = get_or ts i t; behind = drop (i + 1) ts }
spoken_is ts i d t lt = spoken_at [] ts i d t lt

length_behind : (front ts : List Token) → length (spoken_behind front ts) ≡ length ts
length_behind front [] = refl
length_behind front (t ∷ ts) = ap (λ n. suc n) (length_behind (front ++ t ∷ []) ts)

pub as_many : (ts : List Token) → length (spoken ts) ≡ length ts
as_many ts = length_behind [] ts

-- ---- from the front

pub dropped : {A : Type 0} (xs : List A) (i : ℕ) (d : A) → i < length xs → drop i xs ≡ get_or xs i d ∷ drop (i + 1) xs
dropped [] i d lt = absurd (omega arith)
dropped (x ∷ xs) zero d lt = refl
dropped (x ∷ xs) (suc i) d lt =
    let e : suc (i + 1) ≡ suc i + 1 = omega arith in
    dropped xs i d (omega arith) ∙ ap (λ n. get_or xs i d ∷ drop n (x ∷ xs)) e

pub none_left : {A : Type 0} (xs : List A) (i : ℕ) → length xs ≤ i → drop i xs ≡ []
none_left [] zero le = refl
none_left [] (suc i) le = refl
none_left (x ∷ xs) zero le = absurd (omega arith)
none_left (x ∷ xs) (suc i) le = none_left xs i (omega arith)

module _ {A : Type 0} (p : A → Bool) (xs : List A) (i : ℕ) where
  pub later : (d : A) → i < length xs → find p (drop i xs) ≡ find p xs → p (get_or xs i d) ≡ false → find p (drop (i + 1) xs) ≡ find p xs
  later d lt kept off =
      sym (ap (find p) (dropped xs i d lt) ∙ ap (λ b. if b then Some (get_or xs i d) else find p (drop (i + 1) xs)) off) ∙ kept

  pub here : (d : A) → i < length xs → find p (drop i xs) ≡ find p xs → p (get_or xs i d) ≡ true → find p xs ≡ Some (get_or xs i d)
  here d lt kept on =
      sym kept ∙ ap (find p) (dropped xs i d lt) ∙ ap (λ b. if b then Some (get_or xs i d) else find p (drop (i + 1) xs)) on

  pub nowhere : length xs ≤ i → find p (drop i xs) ≡ find p xs → find p xs ≡ None
  nowhere le kept = sym kept ∙ ap (find p) (none_left xs i le)

-- ---- from the end

taken : {A : Type 0} (xs : List A) (i : ℕ) (d : A) → i < length xs → take (suc i) xs ≡ take i xs ++ get_or xs i d ∷ []
taken [] i d lt = absurd (omega arith)
taken (x ∷ xs) zero d lt = refl
taken (x ∷ xs) (suc i) d lt = ap (λ l. x ∷ l) (taken xs i d (omega arith))

turned : {A : Type 0} (xs : List A) (i : ℕ) (d : A) → i < length xs → reverse (take (suc i) xs) ≡ get_or xs i d ∷ reverse (take i xs)
turned xs i d lt = ap reverse (taken xs i d lt) ∙ reverse-append (take i xs) (get_or xs i d ∷ [])

module _ {A : Type 0} (p : A → Bool) (xs : List A) (i : ℕ) where
  pub earlier : (d : A) → i < length xs → find p (reverse (take (suc i) xs)) ≡ find p (reverse xs) → p (get_or xs i d) ≡ false
      → find p (reverse (take i xs)) ≡ find p (reverse xs)
  earlier d lt kept off =
      sym (ap (find p) (turned xs i d lt) ∙ ap (λ b. if b then Some (get_or xs i d) else find p (reverse (take i xs))) off) ∙ kept

  pub here_last : (d : A) → i < length xs → find p (reverse (take (suc i) xs)) ≡ find p (reverse xs) → p (get_or xs i d) ≡ true
      → find p (reverse xs) ≡ Some (get_or xs i d)
  here_last d lt kept on =
      sym kept ∙ ap (find p) (turned xs i d lt) ∙ ap (λ b. if b then Some (get_or xs i d) else find p (reverse (take i xs))) on

-- ---- what words close

pub closed_next : (ts : List Token) (i : ℕ) (t : Token) → i < length ts
    → closed_by (drop i ts) ≡ closed_with (get_or ts i t) (closed_by (drop (i + 1) ts))
closed_next ts i t lt = ap closed_by (dropped ts i t lt)

pred_small : (n : ℕ) → pred n ≤ suc n
pred_small zero = omega arith
pred_small (suc n) = omega arith

closed_small : (t : Token) (n : ℕ) → closed_with t n ≤ suc n
closed_small t n =
    elim (says (codes "$}") t) as (λ b. (if b then suc n else (if says (codes "${") t then pred n else n)) ≤ suc n) [
      | true ↦ omega arith
      | false ↦ elim (says (codes "${") t) as (λ b. (if b then pred n else n) ≤ suc n) [ true ↦ pred_small n | false ↦ omega arith ]
    ]

-- ---- words of a text

-- what stands past the end
abbrev pub past : Piece
past = record { place = 0; text = record { ref_ptr = (0, 0); now = [] } }

rest_is : {A : Type 0} (xs : List A) (i : ℕ) → take (length xs - i) (drop i xs) ≡ drop i xs
rest_is xs i = let long = length-drop i xs in take_all (length xs - i) (drop i xs) (omega (arith, long))

module _ (words : List Piece) (i : ℕ) (w : Piece) (lt : i < length words) where
  abbrev pub one : Spoken
  one = record { front = []; word = seen w; behind = [] }

  pub within : i < length (map seen words)
  within = let long = length-map words seen in omega (arith, long, lt)

  pub within_spoken : i < length (spoken (map seen words))
  within_spoken = let long = as_many (map seen words) in let near = within in omega (arith, long, near)

  pub behind_is : map seen (take (length words - (i + 1)) (drop (i + 1) words)) ≡ drop (i + 1) (map seen words)
  behind_is = ap (map seen) (rest_is words (i + 1)) ∙ sym (drop-map seen (i + 1) words)

  pub at_words : get_or (spoken (map seen words)) i one ≡ record {
    front = map seen (take i words);
    word = seen (get_or words i w);
    behind = map seen (take (length words - (i + 1)) (drop (i + 1) words));
  }
  at_words =
      let ts = map seen words in
      spoken_is ts i one (seen w) within
      ∙ ap (λ l. record { front = l; word = get_or ts i (seen w); behind = drop (i + 1) ts }) (take-map seen i words)
      ∙ ap (λ t. record { front = map seen (take i words); word = t; behind = drop (i + 1) ts }) (get_or-map seen words i w (seen w) lt)
      ∙ ap (λ l. record { front = map seen (take i words); word = seen (get_or words i w); behind = l }) (sym behind_is)

pub all_spoken : (words : List Piece) → take (length words) (spoken (map seen words)) ≡ spoken (map seen words)
all_spoken words =
    let many = as_many (map seen words) in
    let long = length-map words seen in
    take_all (length words) (spoken (map seen words)) (omega (arith, many, long))

pub none_closed : (words : List Piece) → 0 ≡ closed_by (drop (length words) (map seen words))
none_closed words =
    let long = length-map words seen in sym (ap closed_by (none_left (map seen words) (length words) (omega (arith, long))))

pub few_closed : (t : Token) (closed result i at n : ℕ) → result ≡ closed_with t closed → at ≡ i + 1 → closed + at ≤ n → result + i ≤ n
few_closed t closed result i at n is e le = let small = closed_small t closed in omega (arith, small, is, e, le)
