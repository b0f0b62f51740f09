-- The labels of hypotheses, L.1, L.2, ..: their form and their length.
use Rattle.std.proofs.Common.{◌≡◌, ◌≢◌, ℕ, ◌+◌, ◌%◌, ◌^◌, ◌<◌, ◌≤◌, Bool, true, false, eqb, leb, List, [], ◌∷◌, ◌++◌, length}
use Rattle.std.proofs.Common.{refl, sym, ap, ◌∙◌, inl, inr, arith, length-append}
use Rattle.std.specs.Prelude.{◌&&◌}
use Rattle.std.specs.List.{AllByRecursion}
use Rattle.std.specs.Fmt.{decimal}
use Rattle.std.specs.Str.{bytes_eq}
use Rattle.std.proofs.lemmas.Bool.{cases_Bool, and_parts, and_from, or_left, or_right}
use Rattle.std.proofs.lemmas.Bool.Decides.{nat_tests}
use Rattle.std.proofs.lemmas.Fmt.{decimal_by_steps, length-decimal-le}
pub use Rattle.std.proofs.lemmas.Bool.{or_left as first_or, or_right as second_or}
use Rattle.mmtext.specs.Words.{Word, has_dot, is_digit, all_digits, is_label_byte, is_label, is_count, has_number, has_hypothesis_form}
use Rattle.mmsyntax.specs.Layout.{hypothesis_label}
use Rattle.mmsyntax.proofs.Names.{same_bytes}
use Rattle.mmsyntax.proofs.Lines.{IsPrintable, IsWord}

-- ---- in general

-- words of which a test tells one from the other
pub differ : (P : Word → Bool) (a b : Word) → P a ≡ true → P b ≡ false → bytes_eq a b ≡ false
differ P a b h g = elim (cases_Bool (bytes_eq a b)) [
  | inl y ↦ absurd (let e : true ≡ false = sym h ∙ ap P (same_bytes a b y) ∙ g in cc)
  | inr n ↦ n
]

-- ---- decimals

digits_push : (ds : List ℕ) (d : ℕ) → all_digits ds ≡ true → is_digit d ≡ true → all_digits (ds ++ d ∷ []) ≡ true
digits_push [] d h g = and_from (is_digit d) true g refl
digits_push (x ∷ ds) d h g =
    let both = and_parts (is_digit x) (all_digits ds) h in
    and_from (is_digit x) (all_digits (ds ++ d ∷ [])) both.0 (digits_push ds d both.1 g)

digit : (n : ℕ) → n < 10 → is_digit (48 + n) ≡ true
digit n h = grind (arith, nat_tests)

decimal_digits : (n : ℕ) → n < 2 ^ 64 → all_digits (decimal n) ≡ true
decimal_digits n small = decimal_by_steps (λ m ds. all_digits ds ≡ true) (λ m l. digits_push [] (48 + m) refl (digit m l))
    (λ m ds l h. digits_push ds (48 + m % 10) h (digit (m % 10) (omega arith))) n small

last_of_three : (a b c d : Bool) → (a && b && c) ≡ true → (c ≡ true → d ≡ true) → (a && b && d) ≡ true
last_of_three true true c d h f = f h
last_of_three true false c d h f = absurd cc
last_of_three false b c d h f = absurd cc

count_push : (ds : List ℕ) (d : ℕ) → is_count ds ≡ true → is_digit d ≡ true → is_count (ds ++ d ∷ []) ≡ true
count_push [] d h g = absurd cc
count_push (x ∷ ds) d h g = last_of_three (leb 49 x) (leb x 57) (all_digits ds) (all_digits (ds ++ d ∷ [])) h
    (λ all. digits_push ds d all g)

one_digit : (n : ℕ) → 0 < n → n < 10 → is_count ((48 + n) ∷ []) ≡ true
one_digit n some h = grind (arith, nat_tests)

pub decimal_count : (n : ℕ) → n < 2 ^ 64 → 0 < n → is_count (decimal n) ≡ true
decimal_count n small some = decimal_by_steps (λ m ds. 0 < m
    → is_count ds ≡ true) (λ m l a. one_digit m a l)
    (λ m ds l h a. count_push ds (48 + m % 10) (h (omega arith)) (digit (m % 10) (omega arith))) n small some

-- ---- the form of the labels

digit_byte : (b : ℕ) → is_digit b ≡ true → is_label_byte b ≡ true
digit_byte b h = grind (arith, nat_tests)

digits_label : (ds : List ℕ) → all_digits ds ≡ true → is_label ds ≡ true
digits_label [] h = refl
digits_label (d ∷ ds) h =
    let both = and_parts (is_digit d) (all_digits ds) h in
    and_from (is_label_byte d) (is_label ds) (digit_byte d both.0) (digits_label ds both.1)

label_append : (a b : Word) → is_label a ≡ true → is_label b ≡ true → is_label (a ++ b) ≡ true
label_append [] b h g = g
label_append (x ∷ a) b h g =
    let both = and_parts (is_label_byte x) (is_label a) h in
    and_from (is_label_byte x) (is_label (a ++ b)) both.0 (label_append a b both.1 g)

pub decimal_label : (n : ℕ) → n < 2 ^ 64 → is_label (decimal n) ≡ true
decimal_label n small = digits_label (decimal n) (decimal_digits n small)

pub number_label : (label : Word) (n : ℕ) → is_label label ≡ true → n < 2 ^ 64 → is_label (hypothesis_label label n) ≡ true
number_label label n h small = label_append label (46 ∷ decimal n) h (decimal_label n small)

pub number_dot : (label : Word) (ds : List ℕ) → has_dot (label ++ 46 ∷ ds) ≡ true
number_dot [] ds = refl
number_dot (b ∷ label) ds = or_right (eqb b 46) (has_dot (label ++ 46 ∷ ds)) (number_dot label ds)

has_number_behind : (label : Word) (ds : List ℕ) → is_label label ≡ true → is_count ds ≡ true → has_number true (label ++ 46 ∷ ds) ≡ true
has_number_behind [] ds h g = or_left (is_count ds) (is_label_byte 46 && has_number true ds) g
has_number_behind (b ∷ label) ds h g =
    let both = and_parts (is_label_byte b) (is_label label) h in
    or_right _ (is_label_byte b && has_number true (label ++ 46 ∷ ds))
    (and_from (is_label_byte b) (has_number true (label ++ 46 ∷ ds)) both.0 (has_number_behind label ds both.1 g))

form : (label : Word) (ds : List ℕ) → label ≢ [] → is_label label ≡ true → is_count ds ≡ true
    → has_hypothesis_form (label ++ 46 ∷ ds) ≡ true
form [] ds some h g = absurd (some refl)
form (b ∷ label) ds some h g =
    let both = and_parts (is_label_byte b) (is_label label) h in
    and_from (is_label_byte b) (has_number true (label ++ 46 ∷ ds)) both.0 (has_number_behind label ds both.1 g)

pub number_form : (label : Word) (n : ℕ) → label ≢ [] → is_label label ≡ true → n < 2 ^ 64 → 0 < n
    → has_hypothesis_form (hypothesis_label label n) ≡ true
number_form label n some h small pos = form label (decimal n) some h (decimal_count n small pos)

pub number_short : (label : Word) (n : ℕ) → length label ≤ 255 → n ≤ 1000 → length (hypothesis_label label n) ≤ 260
number_short label n short few = omega (
  arith,
  length-append label (46 ∷ decimal n),
  length-decimal-le 4 n (omega arith) (omega arith) (omega arith),
)

-- ---- labels as words

label_byte : (b : ℕ) → is_label_byte b ≡ true → IsPrintable b
label_byte b h = grind (arith, nat_tests)

pub label_bytes : (w : Word) → is_label w ≡ true → AllByRecursion IsPrintable w
label_bytes [] h = tt
label_bytes (b ∷ bs) h = let both = and_parts (is_label_byte b) (is_label bs) h in (label_byte b both.0, label_bytes bs both.1)

some_more : (label : Word) (b : ℕ) (ds : List ℕ) → (label ++ b ∷ ds) ≢ []
some_more [] b ds = λ h. absurd cc
some_more (x ∷ label) b ds = λ h. absurd cc

pub number_word : (label : Word) (n : ℕ) → is_label label ≡ true → n < 2 ^ 64 → IsWord (hypothesis_label label n)
number_word label n h small = (some_more label 46 (decimal n), label_bytes (hypothesis_label label n) (number_label label n h small))
