-- The number that an argument has, and the one that it has where it is given.
use Rattle.std.proofs.Common.{◌≡◌, ◌<◌, ◌^◌, ℕ, Option, Some, None, IfSome, IsNone, Result, Ok, Err, refl, sym, subst}
use Rattle.std.specs.Result.{result_ok}
use Rattle.std.specs.Str.Parse.{ParsesUnsigned, ExplainsUnsignedError, HasUnsignedDigitsIfOk}
use Rattle.std.specs.declared.num.ParseIntError.{ParseIntError}
use Rattle.clap.specs.Words.{Text, ReadsOne, TriesOne}
use Rattle.commandline.specs.Orders.{IsNumber, IsNumberIfGiven}

abbrev Gives : Text → Result ℕ ParseIntError → Type 0
Gives bs r = ParsesUnsigned 64 10 bs r × ExplainsUnsignedError 10 bs r × HasUnsignedDigitsIfOk bs r

-- what was read is the number
pub read_is_number : (o : Option Text) (r : Option ℕ) → (o ≡ None → r ≡ None) → ((t : Text) → o ≡ Some t → ReadsOne Gives t r)
    → IfSome r (IsNumber o)
read_is_number None r none some = subst (λ (x : Option ℕ). IfSome x (IsNumber None)) (sym (none refl)) tt
read_is_number (Some t) None none some = tt
read_is_number (Some t) (Some n) none some = let got = some t refl in (got.0.0.0, got.0.1)

-- nothing was read only where there is no number below 2^64
pub unread_is_none : (o : Option Text) (r : Option ℕ) → ((t : Text) → o ≡ Some t → ReadsOne Gives t r) → IsNone r
    → (n : ℕ) → n < 2 ^ 64 → IsNumber o n → ⊥
unread_is_none None r some none n small is = is
unread_is_none (Some t) (Some m) some none n small is = cc
unread_is_none (Some t) None some none n small is =
    let got = some t refl in
    got.1.0 (is.0, subst (λ (m : ℕ). m < 2 ^ 64) is.1 small)

-- what was tried to be read is the number, where one is given
pub tried_is_given : (o : Option Text) (r : Result (Option ℕ) ParseIntError) → (o ≡ None → r ≡ Ok None)
    → ((t : Text) → o ≡ Some t → TriesOne Gives t r) → IfSome (result_ok r) (IsNumberIfGiven o)
tried_is_given None r none some =
    subst (λ (x : Result (Option ℕ) ParseIntError). IfSome (result_ok x) (IsNumberIfGiven None)) (sym (none refl)) refl
tried_is_given (Some t) (Ok None) none some = absurd (some t refl)
tried_is_given (Some t) (Ok (Some n)) none some = let got = some t refl in (got.0.0.0, got.0.1)
tried_is_given (Some t) (Err e) none some = tt

-- it failed only where what is given is no number below 2^64
pub failed_is_not_given : (o : Option Text) (r : Result (Option ℕ) ParseIntError) → (o ≡ None → r ≡ Ok None)
    → ((t : Text) → o ≡ Some t → TriesOne Gives t r) → IsNone (result_ok r)
    → (n : Option ℕ) → IfSome n (λ m. m < 2 ^ 64) → IsNumberIfGiven o n → ⊥
failed_is_not_given None r none some failed n small is =
    let there = subst (λ (x : Result (Option ℕ) ParseIntError). IsNone (result_ok x)) (none refl) failed in
    cc
failed_is_not_given (Some t) r none some failed None small is = cc
failed_is_not_given (Some t) (Ok m) none some failed (Some n) small is = cc
failed_is_not_given (Some t) (Err e) none some failed (Some n) small is =
    let got = some t refl in
    got.0 (is.0, subst (λ (m : ℕ). m < 2 ^ 64) is.1 small)
