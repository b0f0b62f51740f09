-- Bytes that may stand in a comment wherever they are: lawful ones without $, and of these those that aren't white space.
use Rattle.std.proofs.Common.{◌≡◌, ℕ, zero, suc, ◌/◌, ◌%◌, ◌^◌, ◌<◌, Bool, true, false, eqb, List, [], ◌∷◌, ◌++◌}
use Rattle.std.proofs.Common.{refl, sym, ap, subst, ◌∙◌, inl, inr, arith, get_or}
use Rattle.std.proofs.Math.Nat.{mod-lt}
use Rattle.std.specs.Prelude.{◌&&◌, ◌==◌}
use Rattle.std.specs.List.{list_all, flat_map, AllByRecursion}
use Rattle.std.specs.Fmt.{digit_glyph, digits_onto, digits as digits_in, decimal}
use Rattle.std.specs.Int.{byte_at, bytes_high_first}
use mathlib.Core.Bool.{not}
use Rattle.std.proofs.lemmas.Bool.{cases_Bool, cond-true, cond-false, and_parts, and_from, or_right, or_parts, or_from, not-true}
use Rattle.std.proofs.lemmas.Bool.{agree_below_at}
use Rattle.std.proofs.lemmas.List.Folds.{list_all-append}
use Rattle.std.proofs.lemmas.List.Concat.{flat_map-cons}
use Rattle.std.proofs.lemmas.Grind.{flat_map-append}
use Rattle.mmtext.specs.Words.{Word, has_dollar, is_label}
use Rattle.mmtext.specs.Text.{is_white, is_printable, is_lawful, IsClean}
use Rattle.mmtext.proofs.Marks.{label_plain}
use Rattle.mmsyntax.specs.Preludes.{IsPrintable, IsWord}
use Rattle.mmsyntax.proofs.Numbered.{label_bytes}
use Rattle.mmsyntax.proofs.Lines.{AreLawful, clean_lawful}
use Rattle.sha2.specs.Sha256.{sha256, digest_bytes}
use Rattle.taketext.specs.Comments.{shown_byte, shown_path, digit, digits}

abbrev pub is_quiet : ℕ → Bool
is_quiet b = is_lawful b && not (b == 36)

abbrev pub AreQuiet : List ℕ → Type 0
AreQuiet bytes = list_all is_quiet bytes ≡ true

-- no white space either
abbrev pub is_inked : ℕ → Bool
is_inked b = is_printable b && not (b == 36)

abbrev pub AreInked : List ℕ → Type 0
AreInked bytes = list_all is_inked bytes ≡ true

-- ---- what quiet bytes are

quiet_lawful : (bytes : List ℕ) → AreQuiet bytes → AreLawful bytes
quiet_lawful [] h = tt
quiet_lawful (b ∷ bs) h =
    let both = and_parts (is_quiet b) (list_all is_quiet bs) h in
    ((and_parts (is_lawful b) (not (eqb b 36)) both.0).0, quiet_lawful bs both.1)

pub quiet_clean : (bytes : List ℕ) → AreQuiet bytes → IsClean bytes
quiet_clean bytes h = clean_lawful bytes (quiet_lawful bytes h)

pub quiet_plain : (bytes : List ℕ) → AreQuiet bytes → has_dollar bytes ≡ false
quiet_plain [] h = refl
quiet_plain (b ∷ bs) h =
    let both = and_parts (is_quiet b) (list_all is_quiet bs) h in
    or_from (eqb b 36) (has_dollar bs) (not-true (eqb b 36) (and_parts (is_lawful b) (not (eqb b 36)) both.0).1) (quiet_plain bs both.1)

-- ---- pieces

joined_pass : (p : ℕ → Bool) (a b : List ℕ) → list_all p a ≡ true → list_all p b ≡ true → list_all p (a ++ b) ≡ true
joined_pass p a b h g = list_all-append p a b ∙ and_from (list_all p a) (list_all p b) h g

pub quiet_append : (a b : List ℕ) → AreQuiet a → AreQuiet b → AreQuiet (a ++ b)
quiet_append a b h g = joined_pass is_quiet a b h g

pub inked_append : (a b : List ℕ) → AreInked a → AreInked b → AreInked (a ++ b)
inked_append a b h g = joined_pass is_inked a b h g

pub quiet_inked : (bytes : List ℕ) → AreInked bytes → AreQuiet bytes
quiet_inked [] h = refl
quiet_inked (b ∷ bs) h =
    let both = and_parts (is_inked b) (list_all is_inked bs) h in
    let parts = and_parts (is_printable b) (not (b == 36)) both.0 in
    and_from (is_quiet b) (list_all is_quiet bs)
    (and_from (is_lawful b) (not (b == 36)) (or_right (is_white b) (is_printable b) parts.0) parts.1) (quiet_inked bs both.1)

-- pieces one behind the other
abbrev pub joined : List (List ℕ) → List ℕ
joined [] = []
joined (a ∷ []) = a
joined (a ∷ b ∷ rest) = a ++ joined (b ∷ rest)

pub quiet_joined : (parts : List (List ℕ)) → AllByRecursion AreQuiet parts → AreQuiet (joined parts)
quiet_joined [] h = refl
quiet_joined (a ∷ []) h = h.0
quiet_joined (a ∷ b ∷ rest) h = quiet_append a (joined (b ∷ rest)) h.0 (quiet_joined (b ∷ rest) h.1)

pub quiet_front : (a b : List ℕ) → AreQuiet (a ++ b) → AreQuiet a
quiet_front a b h = (and_parts (list_all is_quiet a) (list_all is_quiet b) (sym (list_all-append is_quiet a b) ∙ h)).0

pub quiet_flat : {A : Type 0} (f : A → List ℕ) (xs : List A) → AllByRecursion (λ x. AreQuiet (f x)) xs → AreQuiet (flat_map f xs)
quiet_flat f [] h = refl
quiet_flat f (x ∷ xs) h =
    subst AreQuiet (sym (flat_map-cons f x xs)) (quiet_append (f x) (flat_map f xs) h.0 (quiet_flat f xs h.1))

-- ---- words

quiet_byte : (b : ℕ) → IsPrintable b → eqb b 36 ≡ false → is_quiet b ≡ true
quiet_byte b h g = and_from (is_lawful b) (not (eqb b 36)) (or_right (is_white b) (is_printable b) h) (ap not g)

quiet_bytes : (w : Word) → AllByRecursion IsPrintable w → has_dollar w ≡ false → AreQuiet w
quiet_bytes [] h g = refl
quiet_bytes (b ∷ bs) h g =
    let both = or_parts (eqb b 36) (has_dollar bs) g in
    and_from (is_quiet b) (list_all is_quiet bs) (quiet_byte b h.0 both.0) (quiet_bytes bs h.1 both.1)

pub quiet_word : (w : Word) → IsWord w → has_dollar w ≡ false → AreQuiet w
quiet_word w h g = quiet_bytes w h.1 g

pub quiet_label : (w : Word) → is_label w ≡ true → AreQuiet w
quiet_label w h = quiet_bytes w (label_bytes w h) (label_plain w h)

-- ---- bytes as a comment shows them

inked_shown_byte : (b : ℕ) → is_inked (shown_byte b) ≡ true
inked_shown_byte b =
    let test = is_printable b && not (eqb b 36) in
    elim (cases_Bool test) [
      | inl y ↦ ap is_inked (cond-true test b 63 y) ∙ y
      | inr n ↦ ap is_inked (cond-false test b 63 n)
    ]

pub inked_shown : (bytes : List ℕ) → AreInked (shown_path bytes)
inked_shown [] = refl
inked_shown (b ∷ bs) = and_from (is_inked (shown_byte b)) (list_all is_inked (shown_path bs)) (inked_shown_byte b) (inked_shown bs)

-- ---- numbers

inked_glyph : (d : ℕ) → d < 10 → is_inked (digit_glyph false d) ≡ true
inked_glyph d h = agree_below_at (λ k. is_inked (digit_glyph false k)) (λ k. true) 10 d refl h

inked_onto : (k n : ℕ) (behind : List ℕ) → AreInked behind → AreInked (digits_onto k 10 false n behind)
inked_onto zero n behind h = h
inked_onto (suc k) n behind h =
    let digit = digit_glyph false (n % 10) in
    let one = digit ∷ behind in
    let more : AreInked one = and_from (is_inked digit) (list_all is_inked behind) (inked_glyph (n % 10) (mod-lt n (omega arith))) h in
    elim (cases_Bool (eqb (n / 10) 0)) [
      | inl y ↦ ap (list_all is_inked) (cond-true (eqb (n / 10) 0) one (digits_onto k 10 false (n / 10) one) y) ∙ more
      | inr o ↦ ap (list_all is_inked) (cond-false (eqb (n / 10) 0) one (digits_onto k 10 false (n / 10) one) o)
          ∙ inked_onto k (n / 10) one more
    ]

pub inked_decimal : (n : ℕ) → AreInked (decimal n)
unfolding digits_in
inked_decimal n = inked_onto 64 n [] refl

-- ---- digits of bytes

inked_digit : (n : ℕ) → n < 16 → is_inked (digit n) ≡ true
inked_digit n h = agree_below_at (λ k. is_inked (digit k)) (λ k. true) 16 n refl h

inked_digits : (b : ℕ) → b < 256 → AreInked (digits b)
inked_digits b h =
    and_from (is_inked (digit (b / 16))) (list_all is_inked (digit (b % 16) ∷ [])) (inked_digit (b / 16) (omega arith))
    (and_from (is_inked (digit (b % 16))) true (inked_digit (b % 16) (omega arith)) refl)

byte_below : (k n : ℕ) → byte_at k n < 256
byte_below zero n = mod-lt n (omega arith)
byte_below (suc k) n = mod-lt (n / 256 ^ suc k) (omega arith)

bytes_inked : (k n : ℕ) → AreInked (flat_map digits (bytes_high_first k n))
bytes_inked zero n = refl
bytes_inked (suc k) n =
    subst AreInked (sym (flat_map-cons digits (byte_at k n) (bytes_high_first k n)))
    (inked_append (digits (byte_at k n)) (flat_map digits (bytes_high_first k n)) (inked_digits (byte_at k n) (byte_below k n))
    (bytes_inked k n))

digest_inked : (h : List ℕ) (n : ℕ) → AreInked (flat_map digits (digest_bytes h n))
unfolding digest_bytes
digest_inked h zero = refl
digest_inked h (suc n) =
    let word = bytes_high_first 4 (get_or h n 0) in
    subst AreInked (sym (flat_map-append digits (digest_bytes h n) word))
    (inked_append (flat_map digits (digest_bytes h n)) (flat_map digits word) (digest_inked h n) (bytes_inked 4 (get_or h n 0)))

pub inked_sum : (bytes : List ℕ) → AreInked (flat_map digits (sha256 bytes))
unfolding sha256
inked_sum bytes = digest_inked _ 8

-- ---- so they are quiet

pub quiet_shown : (bytes : List ℕ) → AreQuiet (shown_path bytes)
quiet_shown bytes = quiet_inked (shown_path bytes) (inked_shown bytes)

pub quiet_decimal : (n : ℕ) → AreQuiet (decimal n)
quiet_decimal n = quiet_inked (decimal n) (inked_decimal n)

pub quiet_sum : (bytes : List ℕ) → AreQuiet (flat_map digits (sha256 bytes))
quiet_sum bytes = quiet_inked (flat_map digits (sha256 bytes)) (inked_sum bytes)
