-- What is so of the assertion at a place.
use Rattle.std.proofs.Common.{◌≡◌, refl}
use Rattle.std.specs.Prelude.{Option, Some, None, IfSome}

-- what is so of each item at a place
pub if_there : {A : Type 0} (o : Option A) (P : A → Type 0) → ((x : A) → o ≡ Some x → P x) → IfSome o P
if_there None P f = tt
if_there (Some x) P f = f x refl

-- what follows of it from what is so of it
pub if_so : {A : Type 0} (o : Option A) (P Q R : A → Type 0) → IfSome o (λ x. P x → Q x → R x) → IfSome o Q → IfSome o (λ x. P x → R x)
if_so None P Q R f q = tt
if_so (Some x) P Q R f q = λ p. f p q

-- what follows of what is so of it, whatever else is
pub if_then : {A : Type 0} (o : Option A) (P Q R : A → Type 0) → ((x : A) → Q x → R x) → IfSome o Q → IfSome o (λ x. P x → R x)
if_then None P Q R f q = tt
if_then (Some x) P Q R f q = λ p. f x q
