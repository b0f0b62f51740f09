-- Words L.k: the number k, and that a word is L.k of one L only.
use Rattle.std.proofs.Common.{◌≡◌, ◌≢◌, ℕ, zero, suc, ◌+◌, ◌<◌, ◌≤◌, Bool, true, false, eqb, ltb, List, [], ◌∷◌, ◌++◌, length, get_or, take, drop}
use Rattle.std.proofs.Common.{Option, Some, None, refl, sym, ap, subst, ◌∙◌, ◌⊎◌, inl, inr, arith, length-append, map}
use Rattle.std.specs.Prelude.{◌||◌, ◌&&◌, codes, find, is_some, All}
use mathlib.Core.Bool.{not}
use Rattle.std.specs.Option.{option_map}
use Rattle.std.specs.List.{range_with_len}
use Rattle.std.specs.Fmt.{decimal}
use Rattle.std.specs.Str.{bytes_eq}
use Rattle.std.specs.Str.Parse.{digits_value}
use Rattle.std.proofs.lemmas.Bool.{cases_Bool, cond-true, cond-false, and_parts, and_from}
use Rattle.std.proofs.lemmas.Bool.Decides.{nat_tests}
use Rattle.std.proofs.lemmas.Fmt.{decimal_injective, decimal_digit}
use Rattle.std.proofs.lemmas.List.{take-append-drop, take_at, length-take-le, length-drop, get_or-drop, drop_more}
use Rattle.std.proofs.lemmas.List.Elements.{All-head, All-tail, All-from_get_or}
use Rattle.mmtext.specs.Words.{Word, is_count, has_dot}
use Rattle.mmsyntax.specs.Dotted.{hypothesis_label, hypothesis_numbered, is_dotted, or_whole, trunk}
use Rattle.mmsyntax.proofs.Names.{same_bytes, bytes_eq-same, ne-eqb}
use Rattle.mmsyntax.proofs.Numbered.{decimal_count, number_dot}
use Rattle.mmsyntax.proofs.Numerals.{count_decimal, decimal_value, digits_lack, counts}

-- ---- the first number of a range that passes a test

find_first : (P : ℕ → Bool) (a n k : ℕ) → a ≤ k → k < a + n → P k ≡ true → ((j : ℕ) → j < k → P j ≡ true → ⊥)
    → find P (range_with_len a n) ≡ Some k
find_first P a zero k low high passes first = absurd (omega arith)
find_first P a (suc n) k low high passes first = elim (cases_Bool (P a)) [
  | inl y ↦ elim (cases_Bool (ltb a k)) [
    | inl lt ↦ absurd (first a (below a k lt) y)
    | inr ge ↦ cond-true (P a) (Some a) (find P (range_with_len (a + 1) n)) y ∙ ap (λ x. Some x) (let le = above a k ge in omega arith)
  ]
  | inr f ↦
      cond-false (P a) (Some a) (find P (range_with_len (a + 1) n)) f
      ∙ find_first P (a + 1) n k (more a k low (λ e. let z : true ≡ false = sym passes ∙ ap P (sym e) ∙ f in absurd cc)) (omega arith)
      passes first
]
  where
    below : (a k : ℕ) → ltb a k ≡ true → a < k
    below a k h = grind (arith, nat_tests)

    above : (a k : ℕ) → ltb a k ≡ false → k ≤ a
    above a k h = grind (arith, nat_tests)

    more : (a k : ℕ) → a ≤ k → (a ≡ k → ⊥) → a + 1 ≤ k
    more a k h n = omega arith

find_no : (P : ℕ → Bool) (a n : ℕ) → ((j : ℕ) → a ≤ j → j < a + n → P j ≡ true → ⊥) → find P (range_with_len a n) ≡ None
find_no P a zero none = refl
find_no P a (suc n) none = elim (cases_Bool (P a)) [
  | inl y ↦ absurd (none a (omega arith) (omega arith) y)
  | inr f ↦
      cond-false (P a) (Some a) (find P (range_with_len (a + 1) n)) f
      ∙ find_no P (a + 1) n (λ j low high. none j (omega arith) (omega arith))
]

found_within : (P : ℕ → Bool) (a n k : ℕ) → find P (range_with_len a n) ≡ Some k → (a ≤ k) × (k < a + n) × (P k ≡ true)
found_within P a zero k h = absurd cc
found_within P a (suc n) k h = elim (cases_Bool (P a)) [
  | inl y ↦
      let e : Some a ≡ Some k = sym (cond-true (P a) (Some a) (find P (range_with_len (a + 1) n)) y) ∙ h in
      let same : a ≡ k = cc in
      (omega arith, omega arith, ap P (sym same) ∙ y)
  | inr f ↦
      let later = found_within P (a + 1) n k (sym (cond-false (P a) (Some a) (find P (range_with_len (a + 1) n)) f) ∙ h) in
      (omega arith, omega arith, later.2)
]

find_mapped : {A B : Type 0} (P : B → Bool) (f : A → B) (xs : List A) → find P (map f xs) ≡ option_map f (find (λ x. P (f x)) xs)
find_mapped P f [] = refl
find_mapped P f (x ∷ xs) = elim (cases_Bool (P (f x))) [
  | inl y ↦
      cond-true (P (f x)) (Some (f x)) (find P (map f xs)) y
      ∙ ap (option_map f) (sym (cond-true (P (f x)) (Some x) (find (λ z. P (f z)) xs) y))
  | inr n ↦
      cond-false (P (f x)) (Some (f x)) (find P (map f xs)) n ∙ find_mapped P f xs
      ∙ ap (option_map f) (sym (cond-false (P (f x)) (Some x) (find (λ z. P (f z)) xs) n))
]

-- ---- the number k of L.k

append_cancel : (xs ys zs : List ℕ) → xs ++ ys ≡ xs ++ zs → ys ≡ zs
append_cancel [] ys zs h = h
append_cancel (x ∷ xs) ys zs h = append_cancel xs ys zs (let e : xs ++ ys ≡ xs ++ zs = cc in e)

-- behind the label and the dot stand the digits
numeral_is : (label w numeral : Word) (j : ℕ) → w ≡ label ++ 46 ∷ numeral → w ≡ hypothesis_label label j → numeral ≡ decimal j
numeral_is label w numeral j h e =
    let same : 46 ∷ numeral ≡ 46 ∷ decimal j = append_cancel label (46 ∷ numeral) (46 ∷ decimal j) (sym h ∙ e) in
    cc

pub numbered_some : (label w : Word) (k : ℕ) → 1 ≤ k → k ≤ 1000 → w ≡ hypothesis_label label k → hypothesis_numbered label w ≡ Some k
unfolding hypothesis_numbered
numbered_some label w k low high e =
    find_first (λ j. bytes_eq w (hypothesis_label label j)) 1 1000 k low (omega arith)
    (ap (λ x. bytes_eq x (hypothesis_label label k)) e ∙ bytes_eq-same (hypothesis_label label k))
    (λ j lt y.
    let digits = numeral_is label w (decimal k) j e (same_bytes w (hypothesis_label label j) y) in
    let same = decimal_injective k j (omega arith) (omega arith) digits in
    omega arith)

pub numbered_none : (label w : Word) → ((j : ℕ) → 1 ≤ j → j ≤ 1000 → w ≡ hypothesis_label label j → ⊥) → hypothesis_numbered label w ≡ None
unfolding hypothesis_numbered
numbered_none label w none =
    find_no (λ j. bytes_eq w (hypothesis_label label j)) 1 1000
    (λ j low high y. none j low (omega arith) (same_bytes w (hypothesis_label label j) y))

pub numbered_is : (label w : Word) (k : ℕ) → hypothesis_numbered label w ≡ Some k → (1 ≤ k) × (k ≤ 1000) × (w ≡ hypothesis_label label k)
unfolding hypothesis_numbered
numbered_is label w k h =
    let found = found_within (λ j. bytes_eq w (hypothesis_label label j)) 1 1000 k h in
    (found.0, omega arith, same_bytes w (hypothesis_label label k) found.2)

-- ---- the number as the code finds it

-- behind a prefix that stands there
pub split_at : (w front rest : Word) → bytes_eq (take (length front) w) front ≡ true → rest ≡ drop (length front) w → w ≡ front ++ rest
split_at w front rest y e =
    sym (take-append-drop (length front) w) ∙ ap (λ x. x ++ drop (length front) w) (same_bytes (take (length front) w) front y)
    ∙ ap (λ x. front ++ x) (sym e)

not_there : (w front rest : Word) → bytes_eq (take (length front) w) front ≡ false → w ≡ front ++ rest → ⊥
not_there w front rest n e =
    let at : take (length front) w ≡ front = ap (take (length front)) e ∙ take_at front rest (length front) refl in
    let y : true ≡ false = sym (bytes_eq-same front) ∙ ap (λ x. bytes_eq x front) (sym at) ∙ n in
    absurd cc

pub no_label : (label w : Word) → bytes_eq (take (length label) w) label ≡ false → None ≡ hypothesis_numbered label w
no_label label w n = sym (numbered_none label w (λ j low high e. not_there w label (46 ∷ decimal j) n e))

pub no_dot : (label w rest dot : Word) → dot ≡ codes "." → w ≡ label ++ rest → bytes_eq (take (length dot) rest) dot ≡ false
    → None ≡ hypothesis_numbered label w
no_dot label w rest dot is h n =
    sym
    (numbered_none label w (λ j low high e.
    not_there rest dot (decimal j) n (append_cancel label rest (46 ∷ decimal j) (sym h ∙ e) ∙ ap (λ x. x ++ decimal j) (sym is))))

-- the word with its label, its dot and what is behind them
pub split_both : (label w rest dot numeral : Word) → dot ≡ codes "." → bytes_eq (take (length label) w) label ≡ true
    → rest ≡ drop (length label) w → bytes_eq (take (length dot) rest) dot ≡ true → numeral ≡ drop (length dot) rest
    → w ≡ label ++ 46 ∷ numeral
split_both label w rest dot numeral is a b d e =
    split_at w label rest a b ∙ ap (λ x. label ++ x) (split_at rest dot numeral d e ∙ ap (λ x. x ++ numeral) is)

pub no_count : (label w numeral : Word) → w ≡ label ++ 46 ∷ numeral → is_count numeral ≡ false → None ≡ hypothesis_numbered label w
no_count label w numeral h n =
    sym
    (numbered_none label w (λ j low high e.
    let count = decimal_count j (omega arith) (omega arith) in
    let z : true ≡ false = sym count ∙ ap is_count (sym (numeral_is label w numeral j h e)) ∙ n in
    absurd cc))

pub too_many : (label w numeral : Word) → w ≡ label ++ 46 ∷ numeral → 1000 < digits_value 10 numeral → None ≡ hypothesis_numbered label w
too_many label w numeral h high =
    sym
    (numbered_none label w (λ j low few e.
    let value : digits_value 10 numeral ≡ j = ap (digits_value 10) (numeral_is label w numeral j h e) ∙ decimal_value j (omega arith) in
    omega arith))

-- the number of a count is at least 1
pub count_some : (w : Word) → is_count w ≡ true → digits_value 10 w ≤ 1000 → 1 ≤ digits_value 10 w
count_some w h few = go (digits_value 10 w) refl few
  where
    go : (n : ℕ) → digits_value 10 w ≡ n → n ≤ 1000 → 1 ≤ n
    go (suc n) e few = omega arith
    go zero e few =
        let zero_is : decimal 0 ≡ w = ap decimal (sym e) ∙ count_decimal w h (omega arith) in
        let digit = decimal_digit 0 (omega arith) in
        absurd (let z : true ≡ false = sym h ∙ ap is_count (sym zero_is ∙ digit) in cc)

pub numbered : (label w numeral : Word) (k : ℕ) → w ≡ label ++ 46 ∷ numeral → is_count numeral ≡ true → k ≡ digits_value 10 numeral
    → k ≤ 1000 → Some k ≡ hypothesis_numbered label w
numbered label w numeral k h count value few =
    let le : digits_value 10 numeral ≤ 1000 = omega arith in
    let one = count_some numeral count le in
    let low : 1 ≤ k = omega arith in
    let digits : numeral ≡ decimal k = sym (count_decimal numeral count (omega arith)) ∙ ap decimal (sym value) in
    sym (numbered_some label w k low few (h ∙ ap (λ x. label ++ 46 ∷ x) digits))

-- ---- words L.k

-- what a word L.k is
pub record DottedParts (l w : Word) : Type 0 where
  pub some : l ≢ []
  pub k : ℕ
  pub low : 1 ≤ k
  pub high : k ≤ 1000
  pub is : w ≡ hypothesis_label l k

pub dotted_parts : (l w : Word) → is_dotted l w ≡ true → DottedParts l w
unfolding is_dotted
dotted_parts l w h = go (hypothesis_numbered l w) refl both.1
  where
    both : (not (bytes_eq l []) ≡ true) × (is_some (hypothesis_numbered l w) ≡ true)
    both = and_parts (not (bytes_eq l [])) (is_some (hypothesis_numbered l w)) h

    some : (l : Word) → not (bytes_eq l []) ≡ true → l ≢ []
    some [] e = absurd cc
    some (b ∷ l) e = λ z. absurd cc

    go : (o : Option ℕ) → hypothesis_numbered l w ≡ o → is_some o ≡ true → DottedParts l w
    go None e y = absurd cc
    go (Some k) e y = let is = numbered_is l w k e in record { some = some l both.0; k = k; low = is.0; high = is.1; is = is.2 }

pub dotted_is : (l : Word) (k : ℕ) → l ≢ [] → 1 ≤ k → k ≤ 1000 → is_dotted l (hypothesis_label l k) ≡ true
unfolding is_dotted
dotted_is l k some low high =
    and_from (not (bytes_eq l [])) (is_some (hypothesis_numbered l (hypothesis_label l k))) (filled l some)
    (ap is_some (numbered_some l (hypothesis_label l k) k low high refl))
  where
    filled : (l : Word) → l ≢ [] → not (bytes_eq l []) ≡ true
    filled [] some = absurd (some refl)
    filled (b ∷ l) some = refl

pub plain_not_dotted : (l w : Word) → has_dot w ≡ false → is_dotted l w ≡ false
plain_not_dotted l w plain = elim (cases_Bool (is_dotted l w)) [
  | inl y ↦
      let p = dotted_parts l w y in
      let z : true ≡ false = sym (number_dot l (decimal p.k)) ∙ ap has_dot (sym p.is) ∙ plain in
      absurd cc
  | inr n ↦ n
]

pub dotted_longer : (l w : Word) → is_dotted l w ≡ true → length l < length w
dotted_longer l w h =
    let p = dotted_parts l w h in
    let e : length w ≡ length l + suc (length (decimal p.k)) = ap length p.is ∙ length-append l (46 ∷ decimal p.k) in
    omega arith

pub not_dotted_itself : (w : Word) → is_dotted w w ≡ false
not_dotted_itself w = elim (cases_Bool (is_dotted w w)) [
  | inl y ↦ let longer = dotted_longer w w y in absurd (omega arith)
  | inr n ↦ n
]

-- ---- the last dot

decimal_plain : (k : ℕ) → 1 ≤ k → k ≤ 1000 → has_dot (decimal k) ≡ false
decimal_plain k low high = digits_lack 46 (decimal k) (omega arith)
    (counts (decimal k) (decimal_count k (omega arith) (omega arith))).digits

last_dot : (a b ds es : Word) → has_dot ds ≡ false → has_dot es ≡ false → a ++ 46 ∷ ds ≡ b ++ 46 ∷ es → a ≡ b
last_dot [] [] ds es h g e = refl
last_dot [] (y ∷ b) ds es h g e =
    let behind : ds ≡ b ++ 46 ∷ es = cc in
    let z : true ≡ false = sym (number_dot b es) ∙ ap has_dot (sym behind) ∙ h in
    absurd cc
last_dot (x ∷ a) [] ds es h g e =
    let behind : a ++ 46 ∷ ds ≡ es = cc in
    let z : true ≡ false = sym (number_dot a ds) ∙ ap has_dot behind ∙ g in
    absurd cc
last_dot (x ∷ a) (y ∷ b) ds es h g e =
    let first : x ≡ y = cc in
    let same : a ≡ b = last_dot a b ds es h g (let rest : a ++ 46 ∷ ds ≡ b ++ 46 ∷ es = cc in rest) in
    cc

-- L of L.k is what stands before the last dot
before_last_dot : (l w front behind : Word) → is_dotted l w ≡ true → has_dot behind ≡ false → w ≡ front ++ 46 ∷ behind → front ≡ l
before_last_dot l w front behind h plain e =
    let p = dotted_parts l w h in
    last_dot front l behind (decimal p.k) plain (decimal_plain p.k p.low p.high) (sym e ∙ p.is)

pub dotted_same : (l m w : Word) → is_dotted l w ≡ true → is_dotted m w ≡ true → l ≡ m
dotted_same l m w h g =
    let p = dotted_parts l w h in
    before_last_dot m w l (decimal p.k) g (decimal_plain p.k p.low p.high) p.is

-- ---- trunks

trunk_from : (w : Word) (o : Option ℕ) → find (λ n. is_dotted (take n w) w) (range_with_len 0 (length w)) ≡ o
    → trunk w ≡ or_whole w (option_map (λ n. take n w) o)
unfolding trunk
trunk_from w o e =
    ap (or_whole w) (find_mapped (λ front. is_dotted front w) (λ n. take n w) (range_with_len 0 (length w))
    ∙ ap (option_map (λ n. take n w)) e)

pub dotted_trunk : (l w : Word) → is_dotted l w ≡ true → trunk w ≡ l
dotted_trunk l w h =
    let p = dotted_parts l w h in
    let longer = dotted_longer l w h in
    let front : take (length l) w ≡ l = ap (take (length l)) p.is ∙ take_at l (46 ∷ decimal p.k) (length l) refl in
    let first = find_first (λ n. is_dotted (take n w) w) 0 (length w) (length l) (omega arith) (omega arith) (ap (λ x. is_dotted x w) front
    ∙ h)
    (λ j lt y.
    let same = dotted_same (take j w) l w y h in
    let size : length (take j w) ≡ length l = ap length same in
    omega (arith, length-take-le j w (omega arith))) in
    trunk_from w (Some (length l)) first ∙ front

pub trunk_whole_or_dotted : (w : Word) → (trunk w ≡ w) ⊎ (is_dotted (trunk w) w ≡ true)
trunk_whole_or_dotted w = go (find (λ n. is_dotted (take n w) w) (range_with_len 0 (length w))) refl
  where
    go : (o : Option ℕ) → find (λ n. is_dotted (take n w) w) (range_with_len 0 (length w)) ≡ o
        → (trunk w ≡ w) ⊎ (is_dotted (trunk w) w ≡ true)
    go None e = inl (trunk_from w None e)
    go (Some n) e =
        let found = found_within (λ n. is_dotted (take n w) w) 0 (length w) n e in
        inr (ap (λ x. is_dotted x w) (trunk_from w (Some n) e) ∙ found.2)

pub plain_trunk : (w : Word) → has_dot w ≡ false → trunk w ≡ w
plain_trunk w plain = elim (trunk_whole_or_dotted w) [
  | inl e ↦ e
  | inr y ↦ absurd (let z : true ≡ false = sym y ∙ plain_not_dotted (trunk w) w plain in cc)
]

-- ---- as the code tells them

-- a slice is empty if its length is 0
of_length : (l : Word) → eqb (length l) 0 ≡ bytes_eq l []
of_length [] = refl
of_length (b ∷ l) = ne-eqb (length (b ∷ l)) 0 (λ e. absurd (omega arith))

pub told_of_none : (l w : Word) (empty : Bool) → empty ≡ eqb (length l) 0 → empty ≡ true → not empty ≡ is_dotted l w
unfolding is_dotted
told_of_none l w empty is y =
    ap not y ∙ ap (λ b. not b && is_some (hypothesis_numbered l w)) (sym y ∙ is ∙ of_length l)

pub told_of_some : (l w : Word) (empty : Bool) → empty ≡ eqb (length l) 0 → empty ≡ false
    → is_some (hypothesis_numbered l w) ≡ is_dotted l w
unfolding is_dotted
told_of_some l w empty is n =
    ap (λ b. not b && is_some (hypothesis_numbered l w)) (sym n ∙ is ∙ of_length l)

lacks : (w : Word) → All (λ b. b ≢ 46) w → has_dot w ≡ false
lacks [] none = refl
lacks (b ∷ w) none =
    ap (λ x. x || has_dot w) (ne-eqb b 46 (All-head (λ b. b ≢ 46) b w none)) ∙ lacks w (All-tail (λ b. b ≢ 46) b w none)

all_behind : (w : Word) (i : ℕ) → ((k : ℕ) → i ≤ k → k < length w → get_or w k 0 ≢ 46) → All (λ b. b ≢ 46) (drop i w)
all_behind w i none =
    All-from_get_or (λ b. b ≢ 46) (drop i w) 0
    (λ k inside. subst (λ b. b ≢ 46) (sym (get_or-drop i w k 0)) (none (i + k) (omega arith) (omega (arith, length-drop i w))))

around : (w : Word) (i : ℕ) → i < length w → get_or w i 0 ≡ 46 → w ≡ take i w ++ 46 ∷ drop (i + 1) w
around w i inside here = sym (take-append-drop i w) ∙ ap (λ l. take i w ++ l) (drop_more w i 0 inside ∙ ap (λ b. b ∷ drop (i + 1) w) here)

pub no_dot_at_all : (w : Word) → All (λ b. b ≢ 46) w → trunk w ≡ w
no_dot_at_all w none = plain_trunk w (lacks w none)

pub at_last_dot : (w : Word) (i : ℕ) → i < length w → get_or w i 0 ≡ 46 → ((k : ℕ) → i + 1 ≤ k → k < length w → get_or w k 0 ≢ 46)
    → is_dotted (take i w) w ≡ false → trunk w ≡ w
at_last_dot w i inside here after n = elim (trunk_whole_or_dotted w) [
  | inl e ↦ e
  | inr y ↦
      let front = before_last_dot (trunk w) w (take i w) (drop (i + 1) w) y (lacks (drop (i + 1) w) (all_behind w (i + 1) after))
      (around w i inside here) in
      absurd (let z : true ≡ false = sym y ∙ ap (λ x. is_dotted x w) (sym front) ∙ n in cc)
]
