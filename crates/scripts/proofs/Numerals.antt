-- Numerals: 0, and decimal numbers from 1.
use Rattle.std.proofs.Common.{◌≡◌, ℕ, zero, suc, ◌^◌, ◌<◌, true, sym, ap, subst, inl, inr, arith}
use Rattle.std.specs.Prelude.{codes}
use Rattle.std.specs.Fmt.{decimal}
use Rattle.std.specs.Str.{bytes_eq}
use Rattle.std.specs.Str.Parse.{AllDigits, digits_value}
use Rattle.std.proofs.lemmas.Bool.{or_cases}
use Rattle.std.proofs.lemmas.Fmt.{decimal_digit}
use Rattle.mmtext.specs.Words.{Word, is_count}
use Rattle.mmsyntax.proofs.Names.{same_bytes}
use Rattle.mmsyntax.proofs.Numbered.{first_or, second_or, decimal_count}
use Rattle.mmsyntax.proofs.Numerals.{counts, count_decimal}
use Rattle.scripts.specs.ScriptFaults.{is_numeral}

pub numeral_digits : (w : Word) → is_numeral w ≡ true → AllDigits 10 w
numeral_digits w h = elim (or_cases (bytes_eq w (codes "0")) (is_count w) h) [
  | inl z ↦ subst (AllDigits 10) (sym (same_bytes w (codes "0") z)) (omega arith, tt)
  | inr c ↦ (counts w c).digits
]

-- a numeral is the digits of its value
pub numeral_decimal : (w : Word) → is_numeral w ≡ true → digits_value 10 w < 2 ^ 64 → decimal (digits_value 10 w) ≡ w
numeral_decimal w h small = elim (or_cases (bytes_eq w (codes "0")) (is_count w) h) [
  | inl z ↦ let e = same_bytes w (codes "0") z in subst (λ x. decimal (digits_value 10 x) ≡ x) (sym e) (decimal_digit 0 (omega arith))
  | inr c ↦ count_decimal w c small
]

-- the digits of a number are a numeral of its value
pub decimal_numeral : (n : ℕ) → n < 2 ^ 64 → is_numeral (decimal n) ≡ true
decimal_numeral zero small =
    first_or _ (is_count (decimal 0)) (ap (λ w. bytes_eq w (codes "0")) (decimal_digit 0 (omega arith)))
decimal_numeral (suc n) small = second_or _ (is_count (decimal (suc n))) (decimal_count (suc n) small (omega arith))
