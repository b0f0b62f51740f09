-- Decimal numbers without leading zero, and what they are the digits of.
use Rattle.std.proofs.Common.{◌≡◌, ℕ, ◌+◌, ◌-◌, ◌*◌, ◌^◌, ◌<◌, ◌≤◌, Bool, true, false, cond, eqb, ltb, leb, List, [], ◌∷◌, length, get_or, take, Some, None}
use Rattle.std.proofs.Common.{refl, sym, ap, ◌∙◌, arith}
use Rattle.std.specs.Prelude.{◌||◌, ◌&&◌}
use Rattle.std.specs.List.{list_any}
use Rattle.std.specs.Fmt.{decimal}
use Rattle.std.specs.Int.{IsInRange}
use Rattle.std.specs.Str.Parse.{AllDigits, digits_value}
use Rattle.std.specs.Char.{digit_value}
use Rattle.std.proofs.lemmas.Bool.{cond-true, cond-false, and_parts, lt-ltb, le-ltb}
pub use Rattle.std.proofs.lemmas.Bool.{le-ltb as not_above}
use Rattle.std.proofs.lemmas.Bool.Decides.{nat_tests}
use Rattle.std.proofs.lemmas.Fmt.{decimal_is_IsNumeral, decimal-digits_value}
use Rattle.std.proofs.lemmas.Int.Digits.{digits_value_more}
use Rattle.std.proofs.lemmas.List.{take_all}
use Rattle.std.proofs.lemmas.Str.{digit_value_digit}
use Rattle.std.proofs.lemmas.Str.Parse.{digit_from_value, digit_at, tells_digits, numerals_by_value, digits_value-take-le, IsNumeralModel}
use Rattle.mmtext.specs.Words.{Word, is_digit, all_digits, is_count}
use Rattle.mmsyntax.specs.Numbers.{written_within}
use Rattle.mmsyntax.proofs.Names.{ne-eqb}

-- ---- digits

digit_range : (c : ℕ) → is_digit c ≡ true → IsInRange 48 57 c
digit_range c h = grind (arith, nat_tests)

digit_small : (c : ℕ) → is_digit c ≡ true → digit_value c < 10
digit_small c h = let r = digit_range c h in let e = digit_value_digit c r in omega (arith, r.1)

digits_all : (ds : List ℕ) → all_digits ds ≡ true → AllDigits 10 ds
digits_all [] h = tt
digits_all (d ∷ ds) h = let both = and_parts (is_digit d) (all_digits ds) h in (digit_small d both.0, digits_all ds both.1)

first_range : (d : ℕ) → leb 49 d ≡ true → leb d 57 ≡ true → IsInRange 48 57 d × (48 < d)
first_range d a b = grind (arith, nat_tests)

-- a number from 1 has digits, of which the first isn't 0
pub record Counts (w : Word) : Type 0 where
  pub digits : AllDigits 10 w
  pub some : 0 < length w
  pub first : 48 < get_or w 0 0

pub counts : (w : Word) → is_count w ≡ true → Counts w
counts [] h = absurd cc
counts (d ∷ ds) h =
    let two = and_parts (leb 49 d && leb d 57) (all_digits ds) h in
    let one = and_parts (leb 49 d) (leb d 57) two.0 in
    let r = first_range d one.0 one.1 in
    let e = digit_value_digit d r.0 in
    record { digits = ((let le : d ≤ 57 = r.0.1 in omega arith), digits_all ds two.1); some = omega arith; first = r.1 }

-- ---- numbers

own : IsNumeralModel (AllDigits 10) (digits_value 10)
own = numerals_by_value (AllDigits 10) tells_digits

pub count_decimal : (w : Word) → is_count w ≡ true → digits_value 10 w < 2 ^ 64 → decimal (digits_value 10 w) ≡ w
count_decimal w h small =
    let c = counts w h in
    decimal-digits_value own w c.digits c.some (λ e. let lt : 48 < get_or w 0 0 = c.first in absurd (omega arith)) small

pub decimal_value : (n : ℕ) → n < 2 ^ 64 → digits_value 10 (decimal n) ≡ n
decimal_value n small = (decimal_is_IsNumeral n small).1

other_byte : (b d : ℕ) → b < 48 → digit_value d < 10 → eqb d b ≡ false
other_byte b d low h = let r = digit_from_value d h in let least : 48 ≤ d = r.0 in ne-eqb d b (λ e. absurd (omega arith))

-- digits have no byte below 0
pub digits_lack : (b : ℕ) (w : Word) → b < 48 → AllDigits 10 w → list_any (λ c. eqb c b) w ≡ false
digits_lack b [] low h = refl
digits_lack b (d ∷ ds) low h = ap (λ x. x || list_any (λ c. eqb c b) ds) (other_byte b d low h.0) ∙ digits_lack b ds low h.1

-- ---- the value of digits, from the left

pub one_more_digit : (ds : List ℕ) (i : ℕ) → AllDigits 10 ds → i < length ds
    → digits_value 10 (take (i + 1) ds) ≡ digits_value 10 (take i ds) * 10 + (get_or ds i 0 - 48)
one_more_digit ds i all lt =
    let r = digit_at ds i all lt in
    let e = digit_value_digit (get_or ds i 0) r in
    let v : digit_value (get_or ds i 0) ≡ get_or ds i 0 - 48 = omega arith in
    digits_value_more 10 ds i lt ∙ ap (λ d. digits_value 10 (take i ds) * 10 + d) v

pub digit_here : (ds : List ℕ) (i : ℕ) → AllDigits 10 ds → i < length ds → 48 ≤ get_or ds i 0
digit_here ds i all lt = (digit_at ds i all lt).0

pub too_high : (highest : ℕ) (ds : List ℕ) (i : ℕ) → highest < digits_value 10 (take i ds) → None ≡ written_within highest ds
too_high highest ds i h =
    let le = digits_value-take-le 10 ds i (omega arith) in
    let lt : highest < digits_value 10 ds = omega arith in
    sym (cond-true (ltb highest (digits_value 10 ds)) None (Some (digits_value 10 ds)) (lt-ltb highest (digits_value 10 ds) lt))

pub written : (highest : ℕ) (ds : List ℕ) (i n : ℕ) → length ds ≤ i → n ≡ digits_value 10 (take i ds) → n ≤ highest
    → Some n ≡ written_within highest ds
written highest ds i n all is low =
    let e : n ≡ digits_value 10 ds = is ∙ ap (digits_value 10) (take_all i ds all) in
    ap (λ x. Some x) e
    ∙ sym (cond-false (ltb highest (digits_value 10 ds)) None (Some (digits_value 10 ds))
    (le-ltb highest (digits_value 10 ds) (omega arith)))

-- ---- a number up to a highest

pub written_some : (high : ℕ) (w : Word) (k : ℕ) → written_within high w ≡ Some k → k ≡ digits_value 10 w
written_some high w k h = go (ltb high (digits_value 10 w)) h
  where
    go : (b : Bool) → cond b None (Some (digits_value 10 w)) ≡ Some k → k ≡ digits_value 10 w
    go true e = absurd cc
    go false e = cc

pub written_none : (high : ℕ) (w : Word) → written_within high w ≡ None → high < digits_value 10 w
written_none high w h = go (ltb high (digits_value 10 w)) refl h
  where
    above : (n : ℕ) → ltb high n ≡ true → high < n
    above n h = grind (arith, nat_tests)

    go : (b : Bool) → ltb high (digits_value 10 w) ≡ b → cond b None (Some (digits_value 10 w)) ≡ None → high < digits_value 10 w
    go true e g = above (digits_value 10 w) e
    go false e g = absurd cc
