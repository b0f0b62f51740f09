-- What is so of options, of results and of truth values.
use Rattle.std.proofs.Common.{◌≡◌, Bool, true, false, refl, sym, Option, Some, None}
use Rattle.std.specs.Prelude.{is_some, IfSome, OnOk, Result, Ok, Err}
use Rattle.std.specs.Option.{option_map}

-- two tests that pass together are one
pub alike : (a b : Bool) → (a ≡ true → b ≡ true) → (b ≡ true → a ≡ true) → a ≡ b
alike true b f g = sym (f refl)
alike false true f g = g refl
alike false false f g = refl

pub none_is : {A : Type 0} (o : Option A) → is_some o ≡ false → o ≡ None
none_is None h = refl
none_is (Some x) h = absurd cc

pub mapped_some : {A B : Type 0} (f : A → B) (o : Option A) → is_some (option_map f o) ≡ is_some o
mapped_some f None = refl
mapped_some f (Some x) = refl

pub if_there : {A : Type 0} {P : A → Type 0} (o : Option A) → ((x : A) → o ≡ Some x → P x) → IfSome o P
if_there None f = tt
if_there (Some x) f = f x refl

pub at_any_result : {T E P : Type 0} (r : Result T E) → P → OnOk r P
at_any_result (Ok v) h = h
at_any_result (Err e) h = tt
